-- Behind `pub use`: what crates above name through this one, and so needn't list (`checks/ways`).
pub use Rattle.cx_control as cx_control
pub mod Asked
pub mod Bodies
pub mod BodyCalls
pub mod CodeLaws
pub mod Codes
pub mod Headers
pub mod Logins
pub mod Operations
pub mod Services
