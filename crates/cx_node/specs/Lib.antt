-- Behind `pub use`: what crates above name through this one, and so needn't list (`checks/ways`).
pub use Rattle.cx_dice as cx_dice
pub use Rattle.cx_link as cx_link
pub use Rattle.cx_rules.specs.cx_login as cx_login
pub use Rattle.cx_rules as cx_rules
pub use Rattle.cx_rules_session as cx_rules_session
pub use Rattle.cx_steps as cx_steps
pub use Rattle.cx_rules.specs.cx_wire as cx_wire
pub mod Made
pub mod Parts
pub mod Places
pub mod Rules
pub mod Tables
pub mod steps
pub mod messages
pub mod kinds
