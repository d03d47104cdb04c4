-- Behind `pub use`: what crates above name through this one, and so needn't list (`checks/ways`).
pub use Rattle.cx_laws_tickets.specs.cx_run.specs.cx_authorize as cx_authorize
pub use Rattle.cx_laws_keys as cx_laws_keys
pub use Rattle.cx_laws_tickets as cx_laws_tickets
pub use Rattle.cx_laws_keys.specs.cx_login as cx_login
pub use Rattle.cx_laws_keys.specs.cx_rules as cx_rules
pub use Rattle.cx_laws_tickets.specs.cx_run.specs.cx_rules_session as cx_rules_session
pub use Rattle.cx_laws_tickets.specs.cx_run as cx_run
pub use Rattle.cx_laws_keys.specs.cx_sealed as cx_sealed
pub use Rattle.cx_secure as cx_secure
pub use Rattle.cx_laws_keys.specs.cx_stream as cx_stream
