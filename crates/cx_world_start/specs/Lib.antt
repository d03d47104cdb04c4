-- Behind `pub use`: what crates above name through this one, and so needn't list (`checks/ways`).
pub use Rattle.cx_holdings.specs.cx_rules as cx_rules
pub use Rattle.cx_run.specs.cx_rules_session as cx_rules_session
pub use Rattle.cx_run as cx_run
pub mod head
pub mod links
