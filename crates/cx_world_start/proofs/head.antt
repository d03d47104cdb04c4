pub mod Changing
pub mod Enrolling
pub mod Following
pub mod Handling
pub mod Held
pub mod Naming
