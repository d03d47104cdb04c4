use Rattle.cx_run.proofs.Untold.{untold}
use Rattle.cx_run.proofs.laws.visit_laws.Goals as goal

pub returns : goal.returns
returns c = record { untold = untold }
