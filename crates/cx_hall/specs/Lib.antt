pub mod Answers
pub mod History
pub mod Lawful
pub mod Passes
pub mod Rule
