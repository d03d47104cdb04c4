pub mod Renaming
pub mod Ranks
pub mod Sessions
pub mod Order
pub mod Tickets
pub mod Legal
