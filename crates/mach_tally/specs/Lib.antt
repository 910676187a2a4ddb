pub mod Sums
pub mod Lent
pub mod Bounds
