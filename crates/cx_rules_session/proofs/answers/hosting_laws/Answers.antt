use Rattle.cx_rules_session.proofs.Serving.{opens, opens_first, serves, serves_first, takes_up, takes_up_first}
use Rattle.cx_rules_session.proofs.answers.hosting_laws.Goals as goal

pub returns-clause-opens : goal.returns-clause-opens
returns-clause-opens c = opens

pub returns-clause-serves : goal.returns-clause-serves
returns-clause-serves c = serves

pub returns-clause-takes_up : goal.returns-clause-takes_up
returns-clause-takes_up c = takes_up

pub returns-clause-opens_first : goal.returns-clause-opens_first
returns-clause-opens_first c = opens_first

pub returns-clause-serves_first : goal.returns-clause-serves_first
returns-clause-serves_first c = serves_first

pub returns-clause-takes_up_first : goal.returns-clause-takes_up_first
returns-clause-takes_up_first c = takes_up_first
