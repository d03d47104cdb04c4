pub mod coming
pub mod idents
pub mod messages
pub mod turn
