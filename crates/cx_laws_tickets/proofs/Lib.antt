pub mod calling
pub mod chain
pub mod authorize
pub mod fetch
