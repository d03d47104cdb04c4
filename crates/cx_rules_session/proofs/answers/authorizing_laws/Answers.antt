use Rattle.cx_rules_session.proofs.Authorizing.{authorizes, passes_first, passes_second, welcomes}
use Rattle.cx_rules_session.proofs.answers.authorizing_laws.Goals as goal

pub returns-clause-welcomes : goal.returns-clause-welcomes
returns-clause-welcomes c = welcomes

pub returns-clause-authorizes : goal.returns-clause-authorizes
returns-clause-authorizes c = authorizes

pub returns-clause-passes_first : goal.returns-clause-passes_first
returns-clause-passes_first c = passes_first

pub returns-clause-passes_second : goal.returns-clause-passes_second
returns-clause-passes_second c = passes_second
