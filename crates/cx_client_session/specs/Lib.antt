-- Behind `pub use`: what crates above name through this one, and so needn't list (`checks/ways`).
pub use Rattle.cx_client_connect as cx_client_connect
pub use Rattle.cx_holdings as cx_holdings
pub use Rattle.cx_client_connect.specs.cx_rules_session as cx_rules_session
pub use Rattle.cx_wire as cx_wire
pub mod calling
pub mod operations
