use Rattle.cx_laws_run.proofs.sent.Whole.{any-ordered, schedule-ordered}
use Rattle.cx_laws_run.proofs.order_laws.sent_laws.Goals as goal

pub returns : goal.returns
returns c = record {
  events = any-ordered;
  schedules = schedule-ordered;
}
