pub mod Ahead
pub mod Behind
