-- To be read in this order.
pub mod Table
pub mod Stands
pub mod Runs
pub mod Looks
pub mod Answers
pub mod Theorems
