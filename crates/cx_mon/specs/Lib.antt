-- Behind `pub use`: what crates above name through this one, and so needn't list (`checks/ways`).
pub use Rattle.cx_node as cx_node
pub mod acceptor
pub mod Machine
pub mod Regards
