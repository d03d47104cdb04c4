use Rattle.cx_run.proofs.ClientKept.{whole-named, whole-opens}
use Rattle.cx_run.proofs.laws.client_laws.Goals as goal

pub returns-clause-name : goal.returns-clause-name
returns-clause-name c = whole-named

pub returns-clause-opens : goal.returns-clause-opens
returns-clause-opens c = whole-opens
