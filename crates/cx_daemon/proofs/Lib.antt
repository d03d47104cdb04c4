pub mod Behind
pub mod IncomingLinks
pub mod Idling
pub mod Kept
pub mod Regarding
pub mod Settled
