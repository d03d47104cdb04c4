-- What drives a node.
pub use Rattle.cx_drive.specs.declared.flow.Order.{Order}
pub use Rattle.cx_drive.specs.declared.peers.Peers.{Peers}
