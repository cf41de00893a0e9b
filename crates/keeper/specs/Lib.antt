-- To be read in this order.
pub mod Outcomes
pub mod Keeper
