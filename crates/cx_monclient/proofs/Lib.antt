pub mod requests
pub mod connector
