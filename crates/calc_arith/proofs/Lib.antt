pub mod OperateLaws
mod Differences
pub mod Ranges
