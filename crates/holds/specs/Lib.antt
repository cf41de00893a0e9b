-- To be read in this order.
pub mod Holds
pub mod Theorems
