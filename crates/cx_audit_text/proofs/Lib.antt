pub mod words
pub mod lines
