pub mod Passing
pub mod Stages
