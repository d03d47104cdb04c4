use Rattle.cx_schedule.proofs.DrillLaws.{drill_told}
use Rattle.cx_schedule.proofs.drilled.drill_law.Goals as goal

pub returns : goal.returns
returns c = λ n seed some few. drill_told n seed few
