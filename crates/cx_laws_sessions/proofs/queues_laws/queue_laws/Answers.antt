use Rattle.cx_laws_sessions.proofs.queues.Cookies.{cookies-numbered, schedule-cookies-numbered}
use Rattle.cx_laws_sessions.proofs.queues.Runs.{all-handled-in-order, all-queued, all-sent-in-order, schedules-in-order}
use Rattle.cx_laws_sessions.proofs.queues_laws.queue_laws.Goals as goal

pub returns : goal.returns
returns c = record {
  sent = all-sent-in-order;
  handled = all-handled-in-order;
  queued = all-queued;
  schedules = schedules-in-order;
  cookies = cookies-numbered;
  schedule_cookies = schedule-cookies-numbered;
}
