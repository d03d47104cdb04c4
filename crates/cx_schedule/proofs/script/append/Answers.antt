use Rattle.cx_schedule.proofs.Whole.{known_noted}
use Rattle.cx_schedule.proofs.script.append.Goals as goal

pub returns-clause-known : goal.returns-clause-known
returns-clause-known c =
    known_noted c.note-noted.result c.args.script.now c.push.new.self c.args.line.number c.args.line.line c.args.known.now c.note-noted.new.known c.requires c.note-noted.ensures c.in_ok-push.ensures.ok
