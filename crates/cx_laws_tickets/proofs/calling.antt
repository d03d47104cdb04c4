pub mod Sessions
pub mod Told
pub mod Asking
pub mod CallSeals
pub mod ClientAfter
pub mod Entering
pub mod Between
