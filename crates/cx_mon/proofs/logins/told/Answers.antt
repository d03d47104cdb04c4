-- What is handed over is the row of the verdict.
use Rattle.cx_mon.proofs.logins.told.Goals as goal

pub returns-in-Granted-clause-row : goal.returns-in-Granted-clause-row
returns-in-Granted-clause-row c = rw c.in-Granted.is c.hands_over.ensures.row
