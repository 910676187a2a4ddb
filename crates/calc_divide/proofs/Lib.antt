pub mod QuotientLaws
pub mod QuotientGiven
