-- Behind `pub use`: what crates above name through this one, and so needn't list (`checks/ways`).
pub use Rattle.cx_digest as cx_digest
pub mod Banners
pub mod Frames
pub mod Preambles
