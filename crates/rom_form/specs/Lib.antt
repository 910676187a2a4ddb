pub mod Listing
pub mod Restored
