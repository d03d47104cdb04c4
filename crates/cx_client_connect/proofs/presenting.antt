pub mod Stages
pub mod Showing
pub mod Behind
