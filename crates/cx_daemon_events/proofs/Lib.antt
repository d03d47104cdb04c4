pub mod Leaving
pub mod Asked
pub mod OfKinds
pub mod Moving
pub mod Scanning
pub mod Shutting
pub mod Steps
pub mod OwnTurns
