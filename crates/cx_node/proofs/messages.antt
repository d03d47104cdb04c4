pub mod Announcing
pub mod Bodies
pub mod Joining
