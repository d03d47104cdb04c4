pub mod keys
pub mod series
pub mod login
