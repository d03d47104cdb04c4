use Rattle.cx_run.proofs.PointsTell.{entered-at, journal-told, log-told}
use Rattle.cx_run.proofs.points.point_laws.Goals as goal

pub returns-clause-journal : goal.returns-clause-journal
returns-clause-journal c = journal-told

pub returns-clause-log : goal.returns-clause-log
returns-clause-log c = log-told

pub returns-clause-entered : goal.returns-clause-entered
returns-clause-entered c = λ setup past e made. entered-at e made setup past
