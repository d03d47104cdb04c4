pub mod Places
pub mod Sentences
pub mod Wrong
