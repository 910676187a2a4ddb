pub mod Answered
pub mod Called
pub mod Lent
