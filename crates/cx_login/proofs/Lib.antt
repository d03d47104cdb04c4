pub mod Handing
pub mod Holding
pub mod Unlocking
pub mod Put
pub mod Tried
