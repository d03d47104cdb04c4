-- The client as its machine holds it: as it begins, what may come to it, and what is left of it where memory is wanting.
use Rattle.cx_base.specs.Names.{Name}
use Rattle.cx_base.specs.declared.addresses.Addr.{Addr}
use Rattle.cx_enc.specs.declared.keys.Key.{Key}
use Rattle.cx_client.specs.cx_holdings.specs.declared.offers.OfferedModes.{OfferedModes}
use Rattle.cx_node.specs.cx_rules.specs.Holdings.{MonClient, holds_nothing, modes_of, no_view}
use Rattle.cx_node.specs.cx_rules.specs.Inputs.{Input, Submit}
use Rattle.cx_steps.specs.declared.events.Command.{Command}
use Rattle.cx_steps.specs.declared.events.Command.TheVariants.{Send}
use Rattle.cx_node.specs.cx_wire.specs.Operations.{IsWritable}
pub use Rattle.cx_client.specs.cx_client_events.specs.Machine.{AreHeld, IsStep, lost, undialled_at}

-- one that asks the monitor as it begins, with its name, its key, its modes and its address: it holds nothing yet
abbrev pub opening_mon_client : Name → Key → OfferedModes → Addr → MonClient
opening_mon_client name key modes address = record {
  name = name;
  secret = key.secret;
  address = address;
  modes = modes_of modes.crc modes.secure;
  global_seq = 0;
  holdings = holds_nothing;
  view = no_view;
}

-- an operation that is to be sent can be written
abbrev pub IsWritableCommand : Command → Type 0
IsWritableCommand (Send daemon operation) = IsWritable operation
IsWritableCommand _ = Unit {0}

abbrev pub IsWritableInput : Input → Type 0
IsWritableInput (Submit command) = IsWritableCommand command
IsWritableInput _ = Unit {0}
