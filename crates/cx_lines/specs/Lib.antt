-- Behind `pub use`: what crates above name through this one, and so needn't list (`checks/ways`).
pub use Rattle.cx_words as cx_words
pub mod Commands
pub mod Found
pub mod Knowing
pub mod Lines
pub mod LinkSteps
pub mod NodeSteps
pub mod Refusals
pub mod Settings
pub mod Sights
