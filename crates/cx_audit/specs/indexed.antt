pub mod Keyed
