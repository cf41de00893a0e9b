-- To be read in this order.
pub mod Header
pub mod Plan
pub mod Spots
pub mod Changes
