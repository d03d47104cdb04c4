-- The laws, each by its lemma.
use Rattle.cx_shared.proofs.Lawful.{knows_one_list, knows_its_look}
use Rattle.cx_shared.proofs.laws.sharing_laws.Goals as goal

pub returns-clause-one : goal.returns-clause-one
returns-clause-one c = knows_one_list

pub returns-clause-look : goal.returns-clause-look
returns-clause-look c = knows_its_look
