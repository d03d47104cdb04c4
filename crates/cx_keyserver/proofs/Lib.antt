pub mod Behind
pub mod Current
pub mod Grants
