pub mod Restored
pub mod Results
