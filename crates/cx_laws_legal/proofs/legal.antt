pub mod Audited
pub mod Legal
