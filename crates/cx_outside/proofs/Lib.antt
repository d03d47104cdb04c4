pub mod linking
pub mod timing
