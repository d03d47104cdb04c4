pub mod Chain
pub mod Granted
