pub mod Checking
pub mod Storing
