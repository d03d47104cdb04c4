pub mod calling
pub mod operations
