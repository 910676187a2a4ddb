pub mod DecimalLaws
pub mod RotateLaws
