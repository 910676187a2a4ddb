pub mod Walk
pub mod Stores
pub mod Texts
pub mod LineBack
pub mod RoundTrip
pub mod Meaning
pub mod Order
