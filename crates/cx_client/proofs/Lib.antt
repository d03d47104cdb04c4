pub mod calls
pub mod Idling
pub mod Kept
pub mod Regarding
pub mod Standing
