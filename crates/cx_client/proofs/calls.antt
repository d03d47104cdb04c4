pub mod Sent
pub mod ByKind
