pub mod Laws
pub mod OperandsLaws
pub mod ShiftLaws
