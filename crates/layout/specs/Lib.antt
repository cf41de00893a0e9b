-- To be read in this order.
pub mod Sizes
pub mod Places
pub mod Layout
