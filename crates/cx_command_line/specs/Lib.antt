pub mod Commands
pub mod Forms
pub mod Words
