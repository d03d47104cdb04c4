pub mod Lawful
pub mod Looks
pub mod Places
pub mod Renewals
pub mod Views
