use Rattle.cx_rules_session.proofs.Sending.{holds, sends, sends_first}
use Rattle.cx_rules_session.proofs.answers.sending_laws.Goals as goal

pub returns-clause-holds : goal.returns-clause-holds
returns-clause-holds c = holds

pub returns-clause-sends : goal.returns-clause-sends
returns-clause-sends c = sends

pub returns-clause-sends_first : goal.returns-clause-sends_first
returns-clause-sends_first c = sends_first
