-- Behind `pub use`: what crates above name through this one, and so needn't list (`checks/ways`).
pub use Rattle.cx_client_events as cx_client_events
pub use Rattle.cx_client_session.specs.cx_holdings as cx_holdings
pub use Rattle.cx_client_session.specs.cx_rules_session as cx_rules_session
pub mod calls
pub mod Machine
pub mod Regards
