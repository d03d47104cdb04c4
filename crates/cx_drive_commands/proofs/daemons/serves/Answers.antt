use Rattle.std.proofs.Common.{[], ◌∷◌, true, refl}
use Rattle.cx_drive_commands.specs.daemon.Held.{lost_daemon, regard_daemon, rests_daemon, serving_lost, serving_regards, serving_rests, serving_rule}
use Rattle.cx_drive_commands.proofs.daemon.Standing.{ServingStandsFor, serving_forgets, serving_loses, serving_regards_so, serving_rests_so}
use Rattle.cx_drive_commands.proofs.nodes.Telling.{listens_by, runs_by_rule}
use Rattle.cx_desk.specs.Handlers.{Handlers}
use Rattle.cx_desk.specs.Held.{handlers_of}
use Rattle.cx_outside.specs.linking.Acts.{Listened}
use Rattle.cx_rules_session.specs.DaemonRule.{daemon_step}
use Rattle.cx_drive_commands.specs.cx_outside.specs.site.Acts.{Linked}
use Rattle.cx_drive_commands.proofs.daemons.serves.Goals as goal

pub returns-clause-ran : goal.returns-clause-ran
returns-clause-ran g c =
    let handlers : Handlers = handlers_of c.args.desk.now in
    listens_by g.L.Links.follows serving_rule serving_lost serving_rests serving_regards (daemon_step handlers) lost_daemon rests_daemon regard_daemon c.args.ready.peers c.args.command.now.listen _ _ _
    c.args.ready.node c.args.ready.orders c.args.ready.events c.listens.result c.listens.new.journal
    (runs_by_rule g.L.Links.follows serving_rule serving_lost serving_rests serving_regards (daemon_step handlers) lost_daemon rests_daemon regard_daemon (ServingStandsFor handlers)
    (serving_forgets handlers c.daemon_forgetting_laws.ensures.forgets)
    (serving_loses handlers c.daemon_forgetting_laws.ensures.loses c.daemon_forgetting_laws.ensures.gives_up)
    (serving_rests_so handlers c.daemon_forgetting_laws.ensures.idle) (serving_regards_so handlers) c.args.ready.peers (Linked (Listened c.args.command.now.listen true) ∷ []) _ _ _
    c.args.ready.node c.args.ready.orders c.args.ready.events c.listens.result c.listens.new.journal (refl, c.requires.stands)) c.listens.ensures.ran
