pub mod Change
pub mod Lowest
pub mod Cleared
pub mod Elsewhere
