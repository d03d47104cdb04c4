-- Behind `pub use`: what crates above name through this one, and so needn't list (`checks/ways`).
pub use Rattle.cx_run.specs.cx_authorize as cx_authorize
pub use Rattle.cx_run.specs.cx_keyserver as cx_keyserver
pub use Rattle.cx_run.specs.cx_lines as cx_lines
pub use Rattle.cx_run.specs.cx_login as cx_login
pub use Rattle.cx_run.specs.cx_rules as cx_rules
pub use Rattle.cx_run.specs.cx_rules_session as cx_rules_session
pub use Rattle.cx_run as cx_run
pub use Rattle.cx_run.specs.cx_sealed as cx_sealed
pub use Rattle.cx_run.specs.cx_steps as cx_steps
pub use Rattle.cx_run.specs.cx_stream as cx_stream
pub use Rattle.cx_run.specs.cx_wire as cx_wire
pub mod session
pub mod queues
pub mod waiting
