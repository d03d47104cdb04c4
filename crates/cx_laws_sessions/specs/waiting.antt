pub mod Heard
pub mod Keeping
pub mod Again
pub mod AtOnce
pub mod Left
pub mod Linked
