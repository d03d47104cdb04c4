-- Behind `pub use`: what crates above name through this one, and so needn't list (`checks/ways`).
pub use Rattle.cx_aes as cx_aes
pub mod Chain
pub mod Envelope
pub mod Opened
