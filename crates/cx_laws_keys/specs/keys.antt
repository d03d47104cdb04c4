pub mod KeepsExpiry
pub mod LooksLast
