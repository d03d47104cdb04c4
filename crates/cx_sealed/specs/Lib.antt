-- Behind `pub use`: what crates above name through this one, and so needn't list (`checks/ways`).
pub use Rattle.cx_cbc.specs.cx_aes as cx_aes
pub use Rattle.cx_cbc as cx_cbc
pub use Rattle.cx_enc as cx_enc
pub use Rattle.cx_rotate as cx_rotate
pub mod Kinds
pub mod Lengths
pub mod Proof
pub mod Records
pub mod Sealing
pub mod Unsealing
