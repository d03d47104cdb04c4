pub mod Calling
pub mod Incoming
