use Rattle.cx_secure.proofs.WholeLaws.{frame_split, one_secure, sealing_keyed}
use Rattle.cx_secure.proofs.laws.secure_laws.Goals as goal

pub returns-clause-keyed : goal.returns-clause-keyed
returns-clause-keyed c = sealing_keyed

pub returns-clause-split : goal.returns-clause-split
returns-clause-split c = frame_split

pub returns-clause-one : goal.returns-clause-one
returns-clause-one c = one_secure
