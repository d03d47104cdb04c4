-- What a client is told to do about daemons, and to whom its links lead.
use Rattle.std.specs.Prelude.{◌≡◌}
use Rattle.std.specs.List.{AllByRecursion}
use Rattle.cx_rules_session.specs.cx_rules.specs.Inputs.{Input, Submit}
use Rattle.cx_rules_session.specs.cx_steps.specs.declared.effects.Effects.{Effects}
use Rattle.cx_rules_session.specs.cx_steps.specs.declared.events.Command.TheVariants as command
use Rattle.cx_rules_session.specs.cx_steps.specs.declared.events.Peer.{Peer}
use Rattle.cx_rules_session.specs.cx_steps.specs.declared.events.Peer.TheVariants as peer

-- no link to a daemon is asked for
abbrev pub IsNoCall : Input → Type 0
IsNoCall (Submit (command.Connect daemon lossy)) = ⊥
IsNoCall _ = Unit {0}

-- a link that is opened leads to the monitor, or to the daemon that a command names
abbrev pub LeadsTo : Input → Peer → Type 0
LeadsTo input peer.Monitor = Unit {0}
LeadsTo (Submit (command.Connect daemon lossy)) (peer.Daemon other) = other ≡ daemon
LeadsTo _ (peer.Daemon other) = ⊥

abbrev pub OpensAsTold : Input → Effects → Type 0
OpensAsTold input out = AllByRecursion (LeadsTo input) out.opens
