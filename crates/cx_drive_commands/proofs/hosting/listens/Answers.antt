use Rattle.std.proofs.Common.{[], ◌∷◌, true, inl}
use Rattle.cx_drive_commands.proofs.nodes.Telling.{listened, runs_behind}
use Rattle.cx_outside.specs.linking.Acts.{Listened}
use Rattle.cx_outside.specs.site.Acts.{Linked}
use Rattle.cx_drive_commands.proofs.hosting.listens.Goals as goal

pub returns-in-Ok-clause-ran : goal.returns-in-Ok-clause-ran
returns-in-Ok-clause-ran g c =
    inl (runs_behind g.L.Links.follows g.M.Machine.rule g.M.Machine.lost g.M.Machine.rests g.M.Machine.regards c.args.ready.peers g.L.Links.goes_on
    (Linked (Listened c.args.at.now true) ∷ []) _ _ _ c.args.ready.node c.args.ready.orders c.args.ready.events c.runs.result c.runs.new.journal
    (listened g.L.Links.follows _ c.listen.new.self _ _ c.args.at.now true c.in-Ok.ensures.did c.in-Ok.ensures.cause c.in-Ok.ensures.other) c.runs.ensures.ran)
