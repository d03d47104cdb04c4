pub mod PlainTurns
pub mod SecureTurns
pub mod SealedFrames
pub mod Securing
