pub mod Calls
pub mod Steps
pub mod Runs
pub mod Lent
