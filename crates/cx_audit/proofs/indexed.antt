pub mod Filed
pub mod Keys
