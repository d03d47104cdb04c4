-- What may come to a node: an operation that a client is told to send can be written.
pub use Rattle.cx_client.specs.Machine.{IsWritableInput}
