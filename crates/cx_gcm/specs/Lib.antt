-- Behind `pub use`: what crates above name through this one, and so needn't list (`checks/ways`).
pub use Rattle.cx_aes as cx_aes
pub mod Blocks
pub mod Multiples
pub mod Key
pub mod Fronts
pub mod Powers
pub mod Base
pub mod Gcm
pub mod Masks
pub mod Prepared
pub mod GcmKeyOf
