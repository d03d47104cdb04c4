pub mod Blocks
pub mod Chaining
pub mod Padding
pub mod Contents
pub mod Head
pub mod OpeningLaws
