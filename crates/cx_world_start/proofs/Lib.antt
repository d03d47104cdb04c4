pub mod head
pub mod links
