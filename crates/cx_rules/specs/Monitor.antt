-- The monitor as its rules see it.
use Rattle.std.specs.Prelude.{ℕ}
use Rattle.cx_base.specs.declared.addresses.Addr.{Addr}
use Rattle.cx_keyserver.specs.Servers.{Server}
use Rattle.cx_login.specs.Monitor.{Offer}
use Rattle.cx_rotate.specs.declared.states.KeptState.{KeptState}
use Rattle.cx_rules.specs.Acceptor.{Stage}
use Rattle.cx_rules.specs.Rows.{Arrival, Node, Row}
use Rattle.cx_rules.specs.declared.responses.Bearer.{Bearer}

-- what it has of its own: its key server; the state that was saved last, or that it began with; the one that was saved last before the last
-- step; its address
pub record Monitor : Type 0 where
  pub server : Server
  pub saved : KeptState
  pub saved_before : KeptState
  pub address : Addr

-- an entity that was sent a challenge, and the global id of its LoginHello
pub record Offered : Type 0 where
  pub offer : Offer
  pub gid : ℕ

-- of an entity that has proved itself the monitor knows the same until its link is open and from then on
abbrev pub MonitorStage : Type 0
MonitorStage = Stage Offered Bearer Bearer

abbrev pub MonitorNode : Type 0
MonitorNode = Node Monitor MonitorStage

abbrev pub MonitorArrival : Type 0
MonitorArrival = Arrival Monitor MonitorStage

abbrev pub MonitorRow : Type 0
MonitorRow = Row Monitor MonitorStage
