pub mod Sums
pub mod Register
pub mod Masks
pub mod Blocks
