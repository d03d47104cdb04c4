pub mod session
pub mod presenting
