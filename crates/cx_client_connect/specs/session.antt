pub mod Table
pub mod Waiting
