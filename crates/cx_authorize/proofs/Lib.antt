pub mod Agreeing
pub mod Chain
pub mod Checking
pub mod Living
pub mod Meaning
pub mod Opened
pub mod Short
pub mod Verdicts
