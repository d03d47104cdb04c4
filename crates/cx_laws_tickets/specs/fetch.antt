pub mod Covered
pub mod Fetches
