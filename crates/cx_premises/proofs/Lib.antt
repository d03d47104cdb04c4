pub mod Concluding
pub mod Entering
pub mod Growing
pub mod Leaving
pub mod Repeating
pub mod Twins
pub mod Walks
