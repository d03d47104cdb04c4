pub mod Ids
pub mod Needed
pub mod Fitting
pub mod Loops
pub mod Wholes
pub mod Behind
