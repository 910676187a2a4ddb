pub mod Round
pub mod Scaled
