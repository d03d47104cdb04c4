pub mod Calling
pub mod Dialled
pub mod OfKinds
pub mod Resting
pub mod Scanning
