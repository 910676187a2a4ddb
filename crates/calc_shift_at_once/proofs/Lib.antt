pub mod Joined
pub mod Left
pub mod Places
pub mod Right
