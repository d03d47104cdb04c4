pub mod indexed
pub mod ruled
pub mod Within
