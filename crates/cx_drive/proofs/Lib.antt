mod Ahead
mod Loops
mod Ordered
mod Performing
mod Running
pub mod Standing
pub mod Written
