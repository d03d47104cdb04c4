use Rattle.cx_authorize.proofs.Agreeing.{accepted, answered, agreed}
use Rattle.cx_authorize.proofs.Chain.{the_verdict}
use Rattle.cx_authorize.proofs.Meaning.{answers, agrees}
use Rattle.cx_authorize.proofs.laws.authorizer_laws.Goals as goal

pub returns-clause-accepted : goal.returns-clause-accepted
returns-clause-accepted c = accepted

pub returns-clause-answered : goal.returns-clause-answered
returns-clause-answered c = answered

pub returns-clause-agreed : goal.returns-clause-agreed
returns-clause-agreed c = agreed

pub returns-clause-verdict : goal.returns-clause-verdict
returns-clause-verdict c = the_verdict

pub returns-clause-answers : goal.returns-clause-answers
returns-clause-answers c = answers

pub returns-clause-agrees : goal.returns-clause-agrees
returns-clause-agrees c = agrees
