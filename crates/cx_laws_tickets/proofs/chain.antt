pub mod Rotating
pub mod Rows
pub mod Steps
pub mod NoDaemonTickets
pub mod Points
pub mod One
pub mod Granting
