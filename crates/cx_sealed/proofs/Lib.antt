pub mod Found
pub mod Rising
pub mod Telling
pub mod Words
