-- Behind `pub use`: what crates above name through this one, and so needn't list (`checks/ways`).
pub use Rattle.cx_rules_session.specs.cx_authorize as cx_authorize
pub use Rattle.cx_rules_session.specs.cx_desk as cx_desk
pub use Rattle.cx_rules_session.specs.cx_keyserver as cx_keyserver
pub use Rattle.cx_lines.specs.cx_words as cx_words
pub use Rattle.cx_lines as cx_lines
pub use Rattle.cx_rules_session.specs.cx_login as cx_login
pub use Rattle.cx_rules_session.specs.cx_rules as cx_rules
pub use Rattle.cx_rules_session as cx_rules_session
pub use Rattle.cx_rules_session.specs.cx_sealed as cx_sealed
pub use Rattle.cx_rules_session.specs.cx_steps as cx_steps
pub use Rattle.cx_rules_session.specs.cx_stream as cx_stream
pub use Rattle.cx_rules_session.specs.cx_wire as cx_wire
pub mod Happenings
pub mod Opening
pub mod Wires
pub mod Worlds
pub mod Turning
pub mod Calling
pub mod Deliveries
pub mod Schedules
pub mod Sending
pub mod Runs
pub mod Points
pub mod Visits
