-- Behind `pub use`: what crates above name through this one, and so needn't list (`checks/ways`).
pub use Rattle.cx_wire.specs.cx_control as cx_control
pub use Rattle.cx_enc as cx_enc
pub use Rattle.cx_steps.specs.cx_journal as cx_journal
pub use Rattle.cx_steps as cx_steps
pub use Rattle.cx_wire as cx_wire
pub mod Client
pub mod Handed
pub mod Held
pub mod Monitor
pub mod Opening
pub mod Proving
pub mod Unlocking
