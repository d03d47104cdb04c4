-- Behind `pub use`: what crates above name through this one, and so needn't list (`checks/ways`).
pub use Rattle.cx_run.specs.cx_authorize as cx_authorize
pub use Rattle.cx_laws_keys.specs.cx_cbc as cx_cbc
pub use Rattle.cx_control as cx_control
pub use Rattle.cx_run.specs.cx_desk as cx_desk
pub use Rattle.cx_laws_keys.specs.cx_journal as cx_journal
pub use Rattle.cx_laws_keys.specs.cx_keyring as cx_keyring
pub use Rattle.cx_laws_keys.specs.cx_keyserver as cx_keyserver
pub use Rattle.cx_laws_keys as cx_laws_keys
pub use Rattle.cx_laws_keys.specs.cx_login as cx_login
pub use Rattle.cx_laws_keys.specs.cx_rules as cx_rules
pub use Rattle.cx_run.specs.cx_rules_session as cx_rules_session
pub use Rattle.cx_run as cx_run
pub use Rattle.cx_laws_keys.specs.cx_sealed as cx_sealed
pub use Rattle.cx_laws_keys.specs.cx_steps as cx_steps
pub use Rattle.cx_laws_keys.specs.cx_wire as cx_wire
pub use Rattle.cx_run.specs.cx_words as cx_words
pub mod chain
pub mod authorize
pub mod fetch
