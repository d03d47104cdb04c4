pub mod Agendas
pub mod Courses
pub mod Held
pub mod Order
pub mod Steps
pub mod Stops
