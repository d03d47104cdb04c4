pub mod Asked
pub mod Booking
pub mod Made
