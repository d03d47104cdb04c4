use Rattle.cx_stream.proofs.SecureFronts.{one_way, secure_again, settled, stream_keyed}
use Rattle.cx_stream.proofs.laws.secure_stream_laws.Goals as goal

pub returns-clause-keyed : goal.returns-clause-keyed
returns-clause-keyed c = stream_keyed

pub returns-clause-again : goal.returns-clause-again
returns-clause-again c = secure_again

pub returns-clause-settled : goal.returns-clause-settled
returns-clause-settled c = settled

pub returns-clause-one : goal.returns-clause-one
returns-clause-one c = one_way
