pub mod Coming
pub mod Heads
pub mod Members
pub mod Held
pub mod Posts
pub mod Steps
