pub mod line
pub mod keyring
pub mod command
