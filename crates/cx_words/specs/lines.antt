pub mod Choices
pub mod Faults
pub mod Known
pub mod Named
pub mod Places
pub mod Sights
pub mod Values
