-- Behind `pub use`: what crates above name through this one, and so needn't list (`checks/ways`).
pub use Rattle.cx_login.specs.cx_control as cx_control
pub use Rattle.cx_keyserver.specs.cx_dice as cx_dice
pub use Rattle.cx_stream.specs.cx_digest as cx_digest
pub use Rattle.cx_stream.specs.cx_frame as cx_frame
pub use Rattle.cx_keyserver.specs.cx_keyring as cx_keyring
pub use Rattle.cx_keyserver as cx_keyserver
pub use Rattle.cx_login as cx_login
pub use Rattle.cx_rotate as cx_rotate
pub use Rattle.cx_stream.specs.cx_secure as cx_secure
pub use Rattle.cx_login.specs.cx_steps as cx_steps
pub use Rattle.cx_stream as cx_stream
pub use Rattle.cx_login.specs.cx_wire as cx_wire
pub mod Abridged
pub mod Acceptor
pub mod Answering
pub mod MonClientAnswering
pub mod Carrying
pub mod Connector
pub mod Fronts
pub mod Greetings
pub mod Holdings
pub mod Inputs
pub mod Judged
pub mod KeptStates
pub mod Links
pub mod Messages
pub mod Monitor
pub mod MonitorLogin
pub mod MonitorRequests
pub mod MonitorRule
pub mod Payloads
pub mod Replies
pub mod Requests
pub mod Rows
pub mod Secured
pub mod Signatures
pub mod Tickets
pub mod Upkeep
pub mod Verdicts
