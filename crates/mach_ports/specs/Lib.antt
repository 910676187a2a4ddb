pub mod Put
pub mod Accesses
pub mod Lent
