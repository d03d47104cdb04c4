pub mod Deciding
pub mod Made
