use Rattle.cx_laws_sessions.proofs.waiting.Runs.{all-again, all-at-once, all-left, all-waiting, links-of-sessions, schedules-waiting}
use Rattle.cx_laws_sessions.proofs.waits_laws.waiting_laws.Goals as goal

pub returns : goal.returns
returns c = record {
  kept = all-waiting;
  sent_again = all-again;
  sent_at_once = all-at-once;
  left = all-left;
  links = links-of-sessions;
  schedules = schedules-waiting;
}
