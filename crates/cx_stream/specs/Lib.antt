-- Behind `pub use`: what crates above name through this one, and so needn't list (`checks/ways`).
pub use Rattle.cx_secure.specs.cx_aes as cx_aes
pub use Rattle.cx_frame.specs.cx_digest as cx_digest
pub use Rattle.cx_frame as cx_frame
pub use Rattle.cx_secure.specs.cx_gcm as cx_gcm
pub use Rattle.cx_secure as cx_secure
pub mod Fronts
pub mod Greetings
pub mod Held
pub mod Openings
pub mod PlainStreams
pub mod Received
pub mod SecureStreams
pub mod Turning
