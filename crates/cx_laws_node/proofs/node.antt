pub mod Entities
pub mod Monitors
