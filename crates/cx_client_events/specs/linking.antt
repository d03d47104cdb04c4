pub mod Ahead
pub mod Kinds
pub mod Scans
pub mod Waiting
