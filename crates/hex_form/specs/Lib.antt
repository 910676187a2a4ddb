pub mod Line
pub mod Reading
pub mod Writing
