-- Behind `pub use`: what crates above name through this one, and so needn't list (`checks/ways`).
pub use Rattle.cx_authorize as cx_authorize
pub use Rattle.cx_rules_session.specs.cx_desk as cx_desk
pub use Rattle.cx_rules_session.specs.cx_frame as cx_frame
pub use Rattle.cx_link as cx_link
pub use Rattle.cx_node.specs.cx_rules as cx_rules
pub use Rattle.cx_rules_session as cx_rules_session
pub use Rattle.cx_node as cx_node
pub mod Rows
pub mod Stages
pub mod Turns
