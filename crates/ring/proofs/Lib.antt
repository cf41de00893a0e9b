pub mod Places
pub mod Held
pub mod Push
pub mod Pop
pub mod Cleared
pub mod Elsewhere
