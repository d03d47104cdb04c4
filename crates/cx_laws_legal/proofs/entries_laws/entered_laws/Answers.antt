use Rattle.cx_laws_legal.proofs.entered.Whole.{any-bounded, schedule-bounded}
use Rattle.cx_laws_legal.proofs.entries_laws.entered_laws.Goals as goal

pub returns : goal.returns
returns c = record {
  events = any-bounded;
  schedules = schedule-bounded;
}
