pub mod nodes
pub mod daemon
