-- Behind `pub use`: what crates above name through this one, and so needn't list (`checks/ways`).
pub use Rattle.cx_outside as cx_outside
pub mod nodes
pub mod daemon
