-- Behind `pub use`: what crates above name through this one, and so needn't list (`checks/ways`).
pub use Rattle.cx_client_connect as cx_client_connect
pub use Rattle.cx_monclient as cx_monclient
pub use Rattle.cx_node as cx_node
pub use Rattle.cx_node.specs.cx_rules_session as cx_rules_session
pub mod linking
pub mod Machine
pub mod Turns
