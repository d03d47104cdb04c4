use Rattle.cx_secure.proofs.CommitLaws.{used_once, used_within}
use Rattle.cx_secure.proofs.laws.commit_laws.Goals as goal

pub returns-clause-once : goal.returns-clause-once
returns-clause-once c = used_once

pub returns-clause-within : goal.returns-clause-within
returns-clause-within c = used_within
