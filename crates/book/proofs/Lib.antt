pub mod Plans
pub mod Classes
pub mod Found
pub mod Painted
pub mod Less
pub mod Resting
