pub mod Drills
pub mod Ends
pub mod Keys
pub mod Lent
pub mod Misread
pub mod NodeRuns
pub mod Nodes
pub mod Texts
