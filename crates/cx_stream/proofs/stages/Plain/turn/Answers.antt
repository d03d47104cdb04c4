use Rattle.cx_stream.proofs.PlainStands.{none_there, turned_stands}
use Rattle.cx_stream.proofs.stages.Plain.turn.Goals as goal

pub returns-clause-stands : goal.returns-clause-stands
returns-clause-stands c = turned_stands c.args.self.now c.next.new.self c.next.result c.next.ensures.taken

pub returns-clause-none : goal.returns-clause-none
returns-clause-none c = none_there c.args.self.now.rest c.next.result c.next.ensures.exact
