pub mod Written
pub mod Copied
pub mod Lowest
pub mod Elsewhere
