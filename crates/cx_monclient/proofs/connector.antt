pub mod Behind
pub mod Choices
pub mod Found
pub mod Logged
pub mod Stages
