use Rattle.cx_rules.proofs.MonClientAnswering.{asks, greets, holds, opens-client, opens-daemon, proves-it, takes-generations, takes-login, takes-tickets}
use Rattle.cx_rules.proofs.laws.asking_laws.Goals as goal

pub returns-clause-greets : goal.returns-clause-greets
returns-clause-greets c = greets

pub returns-clause-asks : goal.returns-clause-asks
returns-clause-asks c = asks

pub returns-clause-proves : goal.returns-clause-proves
returns-clause-proves c = proves-it

pub returns-clause-takes_login : goal.returns-clause-takes_login
returns-clause-takes_login c = takes-login

pub returns-clause-holds : goal.returns-clause-holds
returns-clause-holds c = holds

pub returns-clause-opens_client : goal.returns-clause-opens_client
returns-clause-opens_client c = opens-client

pub returns-clause-opens_daemon : goal.returns-clause-opens_daemon
returns-clause-opens_daemon c = opens-daemon

pub returns-clause-takes_tickets : goal.returns-clause-takes_tickets
returns-clause-takes_tickets c = takes-tickets

pub returns-clause-takes_generations : goal.returns-clause-takes_generations
returns-clause-takes_generations c = takes-generations
