use Rattle.std.proofs.Common.{drop, ap, ◌∙◌}
use Rattle.cx_stream.proofs.PlainStands.{takes_more}
use Rattle.cx_stream.proofs.stages.Plain.next.Goals as goal

pub returns-in-Ok-Some-clause-taken : goal.returns-in-Ok-Some-clause-taken
returns-in-Ok-Some-clause-taken c =
    let found = rw c.in-Ok-Some.field-0-is at c.in-Ok-Some.ensures.found in
    takes_more c.args.self.now c.self.inside.bytes.items c.split_at.result.1.now c.self.inside.taken c.in-Ok-Some.length c.in-Ok-Some.frame
    c.self.view_is (c.split_at.ensures.back ∙ ap (drop c.self.inside.taken) c.as_slice.ensures) found
