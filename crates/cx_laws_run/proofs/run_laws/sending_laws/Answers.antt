use Rattle.cx_laws_run.proofs.run.Sending.{sends-written}
use Rattle.cx_laws_run.proofs.run_laws.sending_laws.Goals as goal

pub returns : goal.returns
returns c = sends-written
