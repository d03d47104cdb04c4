pub mod Lines
pub mod Reading
pub mod Reasons
pub mod Texts
