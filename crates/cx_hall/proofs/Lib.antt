pub mod Calls
pub mod Entries
pub mod Lawful
pub mod Lists
pub mod Moves
