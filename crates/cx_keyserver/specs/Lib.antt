-- Behind `pub use`: what crates above name through this one, and so needn't list (`checks/ways`).
pub use Rattle.cx_sealed.specs.cx_cbc as cx_cbc
pub use Rattle.cx_dice as cx_dice
pub use Rattle.cx_keyring as cx_keyring
pub use Rattle.cx_sealed as cx_sealed
pub mod Issuing
pub mod Servers
