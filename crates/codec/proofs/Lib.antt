pub mod Numbers
pub mod Events
pub mod Answers
pub mod OneReading
