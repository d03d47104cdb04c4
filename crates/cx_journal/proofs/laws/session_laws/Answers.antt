-- The session that is computed, both ways.
use Rattle.cx_journal.proofs.SessionLemmas.{session_is, session_from}
use Rattle.cx_journal.proofs.laws.session_laws.Goals as goal

pub returns : goal.returns
returns c earlier handled session = (session_is earlier handled session, session_from earlier handled session)
