-- Behind `pub use`: what crates above name through this one, and so needn't list (`checks/ways`).
pub use Rattle.cx_enc as cx_enc
pub mod Auth
pub mod BadMethod
pub mod Calls
pub mod Hello
pub mod Idents
pub mod Reconnects
pub mod Refusing
pub mod Upkeep
