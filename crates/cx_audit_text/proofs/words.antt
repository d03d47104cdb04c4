pub mod Bounds
pub mod Chosen
pub mod Steps
