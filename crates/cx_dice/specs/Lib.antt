pub mod Draws
pub mod Rolls
pub mod Sources
