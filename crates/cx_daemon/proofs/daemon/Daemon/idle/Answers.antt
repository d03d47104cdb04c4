-- What it tells of what it holds is what the rules tell.
use Rattle.std.proofs.Common.{◌∙◌, ap}
use Rattle.std.specs.Prelude.{not}
use Rattle.cx_daemon_events.specs.cx_rules_session.specs.DaemonRule.{DaemonState, is_idle}
use Rattle.cx_daemon.proofs.daemon.Daemon.idle.Goals as goal

pub returns-clause-stands : goal.returns-clause-stands
returns-clause-stands c = λ s stands.
    ap not c.is_busy.ensures ∙ ap (λ (d : DaemonState). is_idle d.node) c.self.view_is ∙ c.daemon_forgetting_laws.ensures.idle c.args.self.now.node s.node stands.node
