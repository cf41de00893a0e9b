-- To be read in this order.
pub mod Numbers
pub mod Lists
pub mod Blocks
pub mod Events
pub mod Grounds
pub mod Lowest
pub mod Worlds
pub mod Promises
pub mod Statements
pub mod OneAnswer
pub mod Model
pub mod Examples
