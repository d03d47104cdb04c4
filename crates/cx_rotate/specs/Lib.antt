pub mod Held
pub mod Keeping
pub mod Lawful
pub mod Rotation
