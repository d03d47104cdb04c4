-- Behind `pub use`: what crates above name through this one, and so needn't list (`checks/ways`).
pub use Rattle.cx_verifying.specs.cx_authorize as cx_authorize
pub use Rattle.cx_verifying.specs.cx_desk as cx_desk
pub use Rattle.cx_verifying.specs.cx_rules_session as cx_rules_session
pub use Rattle.cx_verifying as cx_verifying
pub mod coming
pub mod idents
pub mod messages
pub mod turn
