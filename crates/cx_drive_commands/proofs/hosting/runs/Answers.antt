use Rattle.std.proofs.Common.{[], ◌++◌, ap, ◌∙◌, subst}
use Rattle.cx_drive_commands.proofs.nodes.Causes.{runs_cause}
use Rattle.cx_drive_commands.proofs.nodes.Telling.{runs_of}
use Rattle.cx_drive_commands.proofs.hosting.runs.Goals as goal

pub returns-clause-ran : goal.returns-clause-ran
returns-clause-ran g c =
    runs_of g.L.Links.follows g.M.Machine.rule g.M.Machine.lost g.M.Machine.rests g.M.Machine.regards c.args.ready.peers _ _ c.args.ready.node c.hosts-driven.new.node
    c.all.result.now c.args.ready.orders c.args.ready.events c.hosts-driven.result c.end_of.result c.args.journal.now c.hosts-driven.new.journal
    c.all.ensures c.end_of.ensures c.requires.empty c.hosts-driven.ensures

pub returns-clause-cause : goal.returns-clause-cause
returns-clause-cause g c =
    runs_cause g.L.Links.follows g.M.Machine.rule g.M.Machine.lost g.M.Machine.rests g.M.Machine.regards c.args.ready.peers [] _ _ c.args.ready.node c.args.ready.orders c.args.ready.events
    c.end_of.result c.hosts-driven.new.journal (returns-clause-ran g c)
