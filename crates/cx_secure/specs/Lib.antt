-- Behind `pub use`: what crates above name through this one, and so needn't list (`checks/ways`).
pub use Rattle.cx_gcm.specs.cx_aes as cx_aes
pub use Rattle.cx_gcm as cx_gcm
pub mod Commits
pub mod Contents
pub mod Opening
pub mod Parts
pub mod Plains
pub mod Refusing
pub mod Sealings
