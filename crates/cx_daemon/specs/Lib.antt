-- Behind `pub use`: what crates above name through this one, and so needn't list (`checks/ways`).
pub use Rattle.cx_daemon_events as cx_daemon_events
pub use Rattle.cx_node as cx_node
pub mod Moving
pub mod Turned
