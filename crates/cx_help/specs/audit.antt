pub mod Asides
pub mod Forms
pub mod Places
pub mod Rules
pub mod Said
pub mod Wrong
