pub mod Serving
pub mod Entering
