pub mod Alike
pub mod Facts
pub mod Findings
pub mod Leaks
pub mod Ledgers
