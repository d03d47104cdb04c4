pub mod session
pub mod queues
pub mod waiting
