-- Behind `pub use`: what crates above name through this one, and so needn't list (`checks/ways`).
pub use Rattle.cx_lines as cx_lines
pub mod Drills
pub mod Files
pub mod Grammars
pub mod NodeFiles
pub mod NodeLines
