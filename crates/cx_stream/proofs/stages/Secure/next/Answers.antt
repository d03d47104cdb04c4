use Rattle.cx_stream.proofs.Contents.{next_given, next_refused, opened_needs}
use Rattle.cx_stream.proofs.SecureTurns.{finished_exact, finished_passes}
use Rattle.cx_stream.proofs.stages.Secure.next.Goals as goal

pub returns-in-Ok-clause-exact : goal.returns-in-Ok-clause-exact
returns-in-Ok-clause-exact c =
    let opened = rw c.in-Ok-Some.field-0-is at c.in-Ok-Some.ensures.readied in
    finished_exact c.args.self.now c.ready.new.self c.finish.new.self c.in-Ok-Some.head c.in-Ok.given opened c.in-Ok.ensures.finished

pub returns-in-Ok-clause-passes : goal.returns-in-Ok-clause-passes
returns-in-Ok-clause-passes c =
    let opened = rw c.in-Ok-Some.field-0-is at c.in-Ok-Some.ensures.readied in
    finished_passes c.args.self.now c.ready.new.self c.finish.new.self c.in-Ok-Some.head c.in-Ok.given opened c.in-Ok.ensures.finished

pub returns-in-Ok-clause-opened : goal.returns-in-Ok-clause-opened
returns-in-Ok-clause-opened c = λ free some not.
    let opened = rw c.in-Ok-Some.field-0-is at c.in-Ok-Some.ensures.readied in
    next_given c.args.self.now c.ready.new.self c.in-Ok-Some.head c.in-Ok.given c.args.opened.now c.ready.new.opened c.finish.new.opened opened c.in-Ok-Some.ensures.read c.in-Ok.ensures.handed some

pub returns-in-Err-finish-clause-opened : goal.returns-in-Err-finish-clause-opened
returns-in-Err-finish-clause-opened c = λ free some not.
    let opened = rw c.in-Ok-Some.field-0-is at c.in-Ok-Some.ensures.readied in
    next_refused c.args.self.now c.ready.new.self c.in-Ok-Some.head c.in-Err-finish.refusal c.args.opened.now c.ready.new.opened c.finish.new.opened opened c.in-Ok-Some.ensures.read c.in-Err-finish.ensures.handed not

pub returns-in-Ok-clause-sure : goal.returns-in-Ok-clause-sure
returns-in-Ok-clause-sure c = λ sure.
    let opened = rw c.in-Ok-Some.field-0-is at c.in-Ok-Some.ensures.readied in
    finished_exact c.args.self.now c.ready.new.self c.finish.new.self c.in-Ok-Some.head c.in-Ok.given opened c.in-Ok.ensures.finished

pub returns-in-Err-finish-clause-sure : goal.returns-in-Err-finish-clause-sure
returns-in-Err-finish-clause-sure c = λ sure.
    let opened = rw c.in-Ok-Some.field-0-is at c.in-Ok-Some.ensures.readied in
    absurd (opened_needs c.args.self.now c.ready.new.self c.in-Ok-Some.head opened c.in-Err-finish.ensures.whole sure)
