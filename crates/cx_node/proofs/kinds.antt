pub mod Leaving
pub mod OfKinds
pub mod Scanning
pub mod Shutting
