-- The law, by its lemma.
use Rattle.cx_outside.proofs.timing.InOrder.{reads_in_order}
use Rattle.cx_outside.proofs.timing_laws.clock_law.Goals as goal

pub returns : goal.returns
returns c = reads_in_order
