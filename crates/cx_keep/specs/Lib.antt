pub mod Formats
pub mod Held
pub mod Slots
