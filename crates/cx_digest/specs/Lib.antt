pub mod Checksum
pub mod Moved
pub mod Code
