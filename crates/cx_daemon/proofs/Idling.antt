-- Where nothing happens, the step is that of the rules.
use Rattle.std.proofs.Common.{◌≡◌, List}
use Rattle.cx_node.specs.cx_rules.specs.Rows.{idles}
use Rattle.cx_daemon_events.specs.cx_rules_session.specs.DaemonRule.{Daemon}
use Rattle.cx_steps.specs.Nothing.{nothing}
use Rattle.cx_steps.specs.declared.effects.Effects.{Effects}
use Rattle.cx_node.specs.steps.Steps.{node_of}
use Rattle.cx_daemon_events.specs.Kinds.{DaemonLink}
use Rattle.cx_daemon_events.specs.Machine.{AreHeld, IsStep}
use Rattle.cx_daemon_events.proofs.Steps as events

pub idles_step : (own : Daemon) (all links : List DaemonLink) (given : Effects) → AreHeld all → links ≡ all → given ≡ nothing
    → IsStep (node_of own links) (idles (node_of own all)) given
idles_step own all links given h l g = events.idles_step own all links given h l g
