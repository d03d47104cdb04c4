-- What comes to a node, one event at a time, with its bytes as lists.
use Rattle.std.specs.Prelude.{ℕ, List, Option}
use Rattle.cx_rotate.specs.declared.views.View.{View}
use Rattle.cx_login.specs.cx_steps.specs.declared.events.Command.{Command}
use Rattle.cx_login.specs.cx_steps.specs.declared.events.Event.{Event}
use Rattle.cx_login.specs.cx_steps.specs.declared.events.Event.TheVariants as event
use Rattle.cx_login.specs.cx_steps.specs.declared.events.Peer.{Peer}

pub data Input : Type 0 where
  Opened : ℕ → Option Peer → Input
  NoLink : Peer → Input
  Bytes : ℕ → List ℕ → Input
  Turn : ℕ → Input
  Gone : ℕ → Input
  Look : View → Input
  Tick : Input
  Submit : Command → Input
  Restart : Input

abbrev pub input_of : Event → Input
input_of (event.Opened link peer) = Opened link peer
input_of (event.NoLink peer) = NoLink peer
input_of (event.Bytes link bytes) = Bytes link bytes.now
input_of (event.Turn link) = Turn link
input_of (event.Gone link) = Gone link
input_of (event.Look view) = Look view
input_of event.Tick = Tick
input_of (event.Submit command) = Submit command
input_of event.Restart = Restart
