pub mod TurnLaws
pub mod PlayLaws
