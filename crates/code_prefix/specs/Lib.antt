pub mod Found
pub mod Opening
