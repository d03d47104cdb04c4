pub mod run
pub mod sent
pub mod truth
pub mod cover
