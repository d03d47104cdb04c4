pub mod Parts
pub mod Places
pub mod Rolled
pub mod Secrets
