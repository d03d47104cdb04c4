pub mod Cutting
pub mod Laws
pub mod Words
pub mod lines
