pub mod Behind
pub mod Drawn
pub mod Moved
