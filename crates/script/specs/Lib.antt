-- To be read in this order.
pub mod Texts
pub mod Words
pub mod Reading
