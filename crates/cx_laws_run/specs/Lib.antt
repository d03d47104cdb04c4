-- Behind `pub use`: what crates above name through this one, and so needn't list (`checks/ways`).
pub use Rattle.cx_laws_sessions.specs.cx_authorize as cx_authorize
pub use Rattle.cx_laws_sessions.specs.cx_keyserver as cx_keyserver
pub use Rattle.cx_laws_links.specs.cx_laws_tickets.specs.cx_laws_keys as cx_laws_keys
pub use Rattle.cx_laws_links as cx_laws_links
pub use Rattle.cx_laws_sessions as cx_laws_sessions
pub use Rattle.cx_laws_links.specs.cx_laws_tickets as cx_laws_tickets
pub use Rattle.cx_laws_sessions.specs.cx_lines as cx_lines
pub use Rattle.cx_laws_sessions.specs.cx_login as cx_login
pub use Rattle.cx_laws_sessions.specs.cx_rules as cx_rules
pub use Rattle.cx_laws_sessions.specs.cx_rules_session as cx_rules_session
pub use Rattle.cx_laws_sessions.specs.cx_run as cx_run
pub use Rattle.cx_schedule as cx_schedule
pub use Rattle.cx_laws_sessions.specs.cx_sealed as cx_sealed
pub use Rattle.cx_laws_links.specs.cx_secure as cx_secure
pub use Rattle.cx_laws_sessions.specs.cx_stream as cx_stream
pub use Rattle.cx_laws_sessions.specs.cx_wire as cx_wire
pub mod run
pub mod sent
