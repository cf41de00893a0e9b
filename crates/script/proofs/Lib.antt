pub mod Rows
pub mod Decimals
pub mod Cuts
pub mod Blamed
pub mod Commands
pub mod Listed
pub mod Back
