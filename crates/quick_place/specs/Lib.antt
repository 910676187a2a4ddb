pub mod Kinds
pub mod Packed
