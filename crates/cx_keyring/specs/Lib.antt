-- Behind `pub use`: what crates above name through this one, and so needn't list (`checks/ways`).
pub use Rattle.cx_enc as cx_enc
pub use Rattle.cx_words as cx_words
pub mod Collected
pub mod Entries
pub mod Faults
pub mod Indexed
pub mod Judged
pub mod Kept
pub mod Keys
pub mod Lines
pub mod Rings
pub mod Sentences
