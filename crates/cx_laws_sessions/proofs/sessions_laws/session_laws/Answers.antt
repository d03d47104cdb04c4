use Rattle.cx_laws_sessions.proofs.session.Entering.{all-own}
use Rattle.cx_laws_sessions.proofs.session.Runs.{all-enforced, all-in-session, schedules-in-session}
use Rattle.cx_laws_sessions.proofs.sessions_laws.session_laws.Goals as goal

pub returns : goal.returns
returns c = record {
  in_session = all-in-session;
  enforced = all-enforced;
  own = all-own;
  schedules = schedules-in-session;
}
