use Rattle.cx_cbc.proofs.OpeningLaws.{opened-Opens, Opens-opened}
use Rattle.cx_cbc.proofs.opening.opening_laws.Goals as goal

pub returns-clause-found : goal.returns-clause-found
returns-clause-found c = opened-Opens

pub returns-clause-only : goal.returns-clause-only
returns-clause-only c = Opens-opened
