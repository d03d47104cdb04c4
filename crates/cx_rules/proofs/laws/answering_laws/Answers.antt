use Rattle.cx_rules.proofs.Carrying.{greets, hears-greeting, opens-first, opens-link, takes-signature}
use Rattle.cx_rules.proofs.Keying.{rotated-current, rotated-three}
use Rattle.cx_rules.proofs.LoggingIn.{challenge-given, login-given}
use Rattle.cx_rules.proofs.Replying.{generations-given, tickets-given}
use Rattle.cx_rules.proofs.laws.answering_laws.Goals as goal

pub returns-clause-challenges : goal.returns-clause-challenges
returns-clause-challenges c = challenge-given

pub returns-clause-logs_in : goal.returns-clause-logs_in
returns-clause-logs_in c = login-given

pub returns-clause-renews : goal.returns-clause-renews
returns-clause-renews c = tickets-given

pub returns-clause-tells : goal.returns-clause-tells
returns-clause-tells c = generations-given

pub returns-clause-current : goal.returns-clause-current
returns-clause-current c = rotated-current

pub returns-clause-three : goal.returns-clause-three
returns-clause-three c = rotated-three

pub returns-clause-opens : goal.returns-clause-opens
returns-clause-opens c = opens-first

pub returns-clause-greets : goal.returns-clause-greets
returns-clause-greets c = greets

pub returns-clause-hears_hello : goal.returns-clause-hears_hello
returns-clause-hears_hello c = hears-greeting

pub returns-clause-takes_signature : goal.returns-clause-takes_signature
returns-clause-takes_signature c = takes-signature

pub returns-clause-opens_link : goal.returns-clause-opens_link
returns-clause-opens_link c = opens-link
