pub mod Steps
pub mod Planned
pub mod Ends
pub mod Gets
pub mod Right
