-- Behind `pub use`: what crates above name through this one, and so needn't list (`checks/ways`).
pub use Rattle.cx_sealed.specs.cx_aes as cx_aes
pub use Rattle.cx_sealed.specs.cx_cbc as cx_cbc
pub use Rattle.cx_wire.specs.cx_control as cx_control
pub use Rattle.cx_enc as cx_enc
pub use Rattle.cx_journal as cx_journal
pub use Rattle.cx_sealed as cx_sealed
pub use Rattle.cx_wire as cx_wire
pub mod Agreement
pub mod Answers
pub mod Client
pub mod Daemon
pub mod Judging
pub mod Passing
pub mod Verdict
