use Rattle.std.proofs.Common.{[], ◌∷◌, true, refl}
use Rattle.cx_drive.proofs.Standing.{monitor_loses, monitor_regards}
use Rattle.cx_drive.specs.Held.{held_monitor, lost_monitor, regard_monitor}
use Rattle.cx_outside.specs.linking.Acts.{Listened}
use Rattle.cx_rules.specs.Abridged.{MonitorStandsFor}
use Rattle.cx_rules.specs.MonitorRule.{is_idle, monitor_rule}
use Rattle.cx_outside.specs.site.Acts.{Linked}
use Rattle.cx_drive_commands.proofs.nodes.Telling.{listens_by, runs_by_rule}
use Rattle.cx_drive_commands.proofs.monitors.serves.Goals as goal

pub returns-clause-ran : goal.returns-clause-ran
returns-clause-ran g c =
    listens_by g.L.Links.follows held_monitor lost_monitor is_idle regard_monitor monitor_rule lost_monitor is_idle regard_monitor c.args.ready.peers c.args.command.now.listen _ _ c.args.ready.node
    c.args.ready.node c.args.ready.orders c.args.ready.events c.listens.result c.listens.new.journal
    (runs_by_rule g.L.Links.follows held_monitor lost_monitor is_idle regard_monitor monitor_rule lost_monitor is_idle regard_monitor MonitorStandsFor c.forgetting_laws.ensures.monitor_forgets
    (monitor_loses c.forgetting_laws.ensures.monitor_loses) (λ m s st. refl) monitor_regards c.args.ready.peers (Linked (Listened c.args.command.now.listen true) ∷ []) _ _ c.args.ready.node
    c.args.ready.node c.args.ready.orders c.args.ready.events c.listens.result c.listens.new.journal c.requires.stands) c.listens.ensures.ran
