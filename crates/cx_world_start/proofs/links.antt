pub mod Calming
pub mod Numbers
pub mod Parts
pub mod Sending
