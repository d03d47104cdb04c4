use Rattle.cx_stream.proofs.PlainFronts.{one_way, plain_again, settled}
use Rattle.cx_stream.proofs.laws.plain_stream_laws.Goals as goal

pub returns-clause-again : goal.returns-clause-again
returns-clause-again c = plain_again

pub returns-clause-settled : goal.returns-clause-settled
returns-clause-settled c = settled

pub returns-clause-one : goal.returns-clause-one
returns-clause-one c = one_way
