pub mod Bytes
pub mod Parts
pub mod Writing
pub mod Table
pub mod Known
