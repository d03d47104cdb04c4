pub mod Causes
pub mod Stopping
pub mod Telling
