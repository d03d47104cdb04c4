pub mod Answering
pub mod Pending
pub mod Performing
