-- A turn of a link of a daemon, with its book of sessions.
use Rattle.std.specs.Prelude.{List, Some}
use Rattle.cx_daemon_events.specs.cx_authorize.specs.Daemon.{Authority}
use Rattle.cx_desk.specs.Handlers.{Handlers}
use Rattle.cx_daemon_events.specs.cx_rules_session.specs.DaemonRule.{Daemon, turn}
use Rattle.cx_session.specs.Book.{Book}
use Rattle.cx_steps.specs.declared.effects.Effects.{Effects}
use Rattle.cx_node.specs.steps.Steps.{node_of}
use Rattle.cx_node.specs.declared.moments.Moment.{Moment}
use Rattle.cx_daemon_events.specs.Kinds.{DaemonLink}
use Rattle.cx_daemon_events.specs.Machine.{AreHeld, IsBookStep}

-- a link that was taken out of all was turned, as the rules have it; what gives it back leaves these links, this book and this of the daemon's own
pub record IsLinkTurned (handlers : Handlers) (at : Moment) (link : DaemonLink) (own new : Daemon) (all links : List DaemonLink) (old behind : Book Authority) (given : Effects) : Type 0 where
  pub step : IsBookStep (node_of new links) old behind (turn handlers (node_of own all) at.reading at.draw.now.bytes (Some link)) given
  pub held : AreHeld links
