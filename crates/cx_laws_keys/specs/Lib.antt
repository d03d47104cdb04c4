-- Behind `pub use`: what crates above name through this one, and so needn't list (`checks/ways`).
pub use Rattle.cx_sealed.specs.cx_cbc as cx_cbc
pub use Rattle.cx_sealed.specs.cx_enc as cx_enc
pub use Rattle.cx_steps.specs.cx_journal as cx_journal
pub use Rattle.cx_rules.specs.cx_keyring as cx_keyring
pub use Rattle.cx_rules.specs.cx_keyserver as cx_keyserver
pub use Rattle.cx_rules.specs.cx_login as cx_login
pub use Rattle.cx_rules as cx_rules
pub use Rattle.cx_sealed as cx_sealed
pub use Rattle.cx_rules.specs.cx_secure as cx_secure
pub use Rattle.cx_rules.specs.cx_steps as cx_steps
pub use Rattle.cx_rules.specs.cx_stream as cx_stream
pub use Rattle.cx_rules.specs.cx_wire as cx_wire
pub mod keys
