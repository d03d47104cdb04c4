pub mod saving
pub mod node
