pub mod Joined
pub mod Names
pub mod Nodes
pub mod Owners
pub mod Streams
pub mod Texts
