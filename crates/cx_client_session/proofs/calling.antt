pub mod Sending
pub mod Behind
