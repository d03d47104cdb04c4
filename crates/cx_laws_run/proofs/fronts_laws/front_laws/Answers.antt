use Rattle.cx_laws_run.proofs.fronts_laws.front_laws.Goals as goal
use Rattle.cx_laws_run.proofs.truth.Fronts.{holds-fronts, schedule-fronts}

pub returns : goal.returns
returns c = record {
  events = holds-fronts;
  schedules = schedule-fronts;
}
