pub mod links
pub mod answers
