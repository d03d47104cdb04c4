use Rattle.cx_rules_session.proofs.Fetching.{asks_again, asks_for_link, fetches_once}
use Rattle.cx_rules_session.proofs.answers.fetching_laws.Goals as goal

pub returns-clause-asks_again : goal.returns-clause-asks_again
returns-clause-asks_again c = asks_again

pub returns-clause-asks_for_link : goal.returns-clause-asks_for_link
returns-clause-asks_for_link c = asks_for_link

pub returns-clause-fetches_once : goal.returns-clause-fetches_once
returns-clause-fetches_once c = fetches_once
