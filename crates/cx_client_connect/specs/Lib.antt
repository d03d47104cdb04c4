-- Behind `pub use`: what crates above name through this one, and so needn't list (`checks/ways`).
pub use Rattle.cx_rules_session as cx_rules_session
pub mod session
pub mod presenting
