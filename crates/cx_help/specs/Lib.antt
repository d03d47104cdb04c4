pub mod line
pub mod keyring
pub mod audit
pub mod command
pub mod node
