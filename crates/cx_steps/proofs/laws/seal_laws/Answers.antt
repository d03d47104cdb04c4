-- One thing is found.
use Rattle.cx_steps.proofs.Found.{one_found}
use Rattle.cx_steps.proofs.laws.seal_laws.Goals as goal

pub returns : goal.returns
returns c leaked log first second = one_found leaked log first second
