-- The cause in the bytes is one in the input, of which they are all.
use Rattle.cx_top.proofs.Causes.{input_cause}
use Rattle.cx_top.proofs.top.text_from.Goals as goal

pub returns-clause-cause : goal.returns-clause-cause
returns-clause-cause g c =
    input_cause c.args.command c.made_of.result _ _ _ _ _ _ (rw c.in-Ok.is at c.read_all.ensures.all) (rw c.in-Ok.is at c.read_all.ensures.short) c.bytes-2.ensures c.made_of.ensures.cause
