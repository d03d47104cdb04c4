pub mod Acts
pub mod Events
pub mod Laws
pub mod Living
pub mod Paths
pub mod Scripts
