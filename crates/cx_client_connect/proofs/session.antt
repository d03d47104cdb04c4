pub mod Above
pub mod Placed
pub mod Writable
