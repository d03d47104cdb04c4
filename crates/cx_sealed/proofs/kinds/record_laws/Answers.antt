use Rattle.cx_sealed.proofs.Telling.{spells_one, is_no_proof}
use Rattle.cx_sealed.proofs.kinds.record_laws.Goals as goal

pub returns-clause-one : goal.returns-clause-one
returns-clause-one c = spells_one

pub returns-clause-no_proof : goal.returns-clause-no_proof
returns-clause-no_proof c = is_no_proof
