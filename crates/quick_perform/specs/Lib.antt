pub mod Trees
pub mod Tries
