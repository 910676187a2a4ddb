pub mod CarryLaws
pub mod Counted
pub mod Kept
