pub mod Clauses
pub mod Details
pub mod Grants
pub mod Sentences
pub mod Settings
pub mod Standing
