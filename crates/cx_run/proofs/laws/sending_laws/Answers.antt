use Rattle.cx_run.proofs.Written.{line-written, written}
use Rattle.cx_run.proofs.laws.sending_laws.Goals as goal

pub returns : goal.returns
returns c = record { events = written; lines = line-written }
