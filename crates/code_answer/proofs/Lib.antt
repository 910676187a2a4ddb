pub mod DecodesLaws
pub mod CodeLaws
pub mod FollowLaws
