pub mod Once
pub mod Texts
pub mod Wholes
