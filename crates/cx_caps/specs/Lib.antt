pub mod Texts
pub mod Grammar
pub mod Reading
pub mod Permissions
pub mod Seen
