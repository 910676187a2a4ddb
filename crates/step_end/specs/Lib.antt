pub mod Finishes
pub mod Lent
