pub mod Dials
pub mod Limits
pub mod Loads
pub mod Serving
