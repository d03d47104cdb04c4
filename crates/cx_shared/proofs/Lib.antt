pub mod Crossing
pub mod Lawful
pub mod Prefixes
pub mod Renews
