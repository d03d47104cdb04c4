pub mod Sentences
pub mod Told
