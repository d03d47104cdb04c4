pub mod Choices
pub mod Items
pub mod Readings
pub mod Reasons
pub mod Wrong
