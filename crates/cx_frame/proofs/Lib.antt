pub mod Answering
pub mod BannerLaws
pub mod Cutting
pub mod Fours
pub mod FrameLaws
pub mod PreambleLaws
pub mod RestLaws
