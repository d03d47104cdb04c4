pub mod acceptor
pub mod Kept
pub mod Regarding
pub mod Standing
pub mod Steps
