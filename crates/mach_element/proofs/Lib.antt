pub mod DueLaws
pub mod Laws
