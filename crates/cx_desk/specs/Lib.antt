-- Behind `pub use`: what crates above name through this one, and so needn't list (`checks/ways`).
pub use Rattle.cx_caps as cx_caps
pub mod Handlers
pub mod Held
pub mod Causes
