use Rattle.cx_laws_run.proofs.truth.Truthful.{any-truthful}
use Rattle.cx_laws_run.proofs.truth.Whole.{any-answered, schedule-answered, schedule-truthful}
use Rattle.cx_laws_run.proofs.answers_laws.truth_laws.Goals as goal

pub returns : goal.returns
returns c = record {
  events = any-truthful;
  schedules = schedule-truthful;
  answered = any-answered;
  answered_schedules = schedule-answered;
}
