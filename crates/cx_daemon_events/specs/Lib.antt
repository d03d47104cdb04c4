-- Behind `pub use`: what crates above name through this one, and so needn't list (`checks/ways`).
pub use Rattle.cx_verifying.specs.cx_authorize as cx_authorize
pub use Rattle.cx_monclient as cx_monclient
pub use Rattle.cx_verifying.specs.cx_rules_session as cx_rules_session
pub use Rattle.cx_verifying as cx_verifying
pub mod Ahead
pub mod Ending
pub mod Kinds
pub mod Machine
pub mod Regards
pub mod Shutting
pub mod Turns
