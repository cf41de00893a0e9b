pub mod Rise
pub mod Lookups
pub mod Numbers
