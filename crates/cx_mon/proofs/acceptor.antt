pub mod Answering
pub mod Behind
pub mod Changed
pub mod Controls
pub mod Decided
pub mod Offering
pub mod Stages
