pub mod Calls
pub mod IncomingTurns
pub mod Lifting
