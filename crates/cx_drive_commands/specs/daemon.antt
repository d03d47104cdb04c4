pub mod Daemons
pub mod Held
