use Rattle.cx_laws_run.proofs.truth.Whole.{any-lawful, schedule-lawful}
use Rattle.cx_laws_run.proofs.answers_laws.whole_laws.Goals as goal

pub returns : goal.returns
returns c = record {
  events = any-lawful;
  schedules = schedule-lawful;
}
