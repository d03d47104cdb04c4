use Rattle.std.proofs.Common.{◌<◌, length}
use Rattle.cx_drive.specs.Agendas.{agenda_of}
use Rattle.cx_drive.specs.Courses.{Ran}
use Rattle.cx_drive.specs.Stops.{scene}
use Rattle.cx_drive.proofs.driving.run.Given as goal

abbrev pub invariant-loop : goal.invariant-loop
invariant-loop g l = (0 < length l.buffer)
    × Ran g.S.Site.follows g.M.Machine.rule g.M.Machine.lost g.M.Machine.rests g.M.Machine.regards l.peers (scene l.fn.site l.fn.node l.fn.journal) (scene l.site l.node l.journal)
    (agenda_of l.fn.flow) (agenda_of l.flow)
