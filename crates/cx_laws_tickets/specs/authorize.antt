pub mod Admission
pub mod Coming
pub mod Expiring
