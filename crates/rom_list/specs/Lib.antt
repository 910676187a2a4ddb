pub mod Lists
pub mod Makes
pub mod Restores
pub mod Agrees
pub mod Rebuilds
