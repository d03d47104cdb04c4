-- What may come to a node.
pub use Rattle.cx_world.specs.actors.Coming.{IsWritableInput}
