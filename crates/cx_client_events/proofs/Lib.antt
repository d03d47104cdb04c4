pub mod linking
pub mod Asked
pub mod Gone
pub mod Kept
pub mod Steps
