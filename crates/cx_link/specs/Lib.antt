-- Behind `pub use`: what crates above name through this one, and so needn't list (`checks/ways`).
pub use Rattle.cx_control as cx_control
pub use Rattle.cx_journal as cx_journal
pub mod Checking
pub mod Refusing
pub mod Sending
pub mod Turning
pub mod Wires
