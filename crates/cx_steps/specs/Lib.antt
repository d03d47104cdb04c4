-- Behind `pub use`: what crates above name through this one, and so needn't list (`checks/ways`).
pub use Rattle.cx_journal as cx_journal
pub mod Breach
pub mod Draws
pub mod Nothing
pub mod Onto
pub mod Premises
