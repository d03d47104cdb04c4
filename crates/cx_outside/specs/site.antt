pub mod Acts
pub mod Tapes
pub mod Telling
