pub mod Besides
pub mod Causes
pub mod Reading
pub mod Reasons
pub mod Written
