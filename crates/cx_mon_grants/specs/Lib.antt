pub mod Deciding
pub mod Handing
pub mod Issuing
pub mod Logging
pub mod Occasions
pub mod Telling
