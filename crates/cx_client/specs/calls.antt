pub mod Ahead
pub mod Sending
