use Rattle.cx_login.specs.Proving.{due_proof}
use Rattle.cx_login.proofs.proving.due_proof.Goals as goal

pub returns : goal.returns
unfolding due_proof
returns c = c.proof.ensures
