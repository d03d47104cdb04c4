pub mod Bytes
pub mod Words
pub mod Judged
pub mod Read
pub mod Laws
