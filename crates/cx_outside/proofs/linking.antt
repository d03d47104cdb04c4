pub mod Living
pub mod Walks
