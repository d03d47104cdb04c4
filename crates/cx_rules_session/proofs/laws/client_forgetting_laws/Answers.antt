use Rattle.cx_rules_session.proofs.WholeClientForgets.{client-forgets, client-idle, client-lost, client-opening, client-twice, client-undialled}
use Rattle.cx_rules_session.proofs.laws.client_forgetting_laws.Goals as goal

pub returns-clause-forgets : goal.returns-clause-forgets
returns-clause-forgets c = client-forgets

pub returns-clause-idle : goal.returns-clause-idle
returns-clause-idle c = client-idle

pub returns-clause-loses : goal.returns-clause-loses
returns-clause-loses c = client-lost

pub returns-clause-gives_up : goal.returns-clause-gives_up
returns-clause-gives_up c = client-undialled

pub returns-clause-opening : goal.returns-clause-opening
returns-clause-opening c = client-opening

pub returns-clause-twice : goal.returns-clause-twice
returns-clause-twice c = client-twice
