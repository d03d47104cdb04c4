use Rattle.cx_laws_due.proofs.IncomingTurns.{greets, hears-hello, takes-signature}
use Rattle.cx_laws_due.proofs.laws.incoming_laws.Goals as goal

pub returns-clause-greets : goal.returns-clause-greets
returns-clause-greets c = greets

pub returns-clause-hears_hello : goal.returns-clause-hears_hello
returns-clause-hears_hello c = hears-hello

pub returns-clause-takes_signature : goal.returns-clause-takes_signature
returns-clause-takes_signature c = takes-signature
