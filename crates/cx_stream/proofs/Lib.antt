pub mod Contents
pub mod PlainFronts
pub mod PlainStands
pub mod Sealed
pub mod SecureFronts
pub mod SecureTurns
