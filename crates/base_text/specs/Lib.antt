pub mod Text
pub mod Length
