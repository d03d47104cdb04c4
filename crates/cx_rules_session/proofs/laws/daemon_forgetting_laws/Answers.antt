use Rattle.cx_rules_session.proofs.DaemonForgets.{daemon-forgets, daemon-idle, daemon-lost, daemon-opening, daemon-steps, daemon-told, daemon-twice, daemon-undialled}
use Rattle.cx_rules_session.proofs.laws.daemon_forgetting_laws.Goals as goal

pub returns-clause-asks : goal.returns-clause-asks
returns-clause-asks c = daemon-forgets

pub returns-clause-told : goal.returns-clause-told
returns-clause-told c = daemon-told

pub returns-clause-forgets : goal.returns-clause-forgets
returns-clause-forgets c = daemon-steps

pub returns-clause-idle : goal.returns-clause-idle
returns-clause-idle c = daemon-idle

pub returns-clause-loses : goal.returns-clause-loses
returns-clause-loses c = daemon-lost

pub returns-clause-gives_up : goal.returns-clause-gives_up
returns-clause-gives_up c = daemon-undialled

pub returns-clause-opening : goal.returns-clause-opening
returns-clause-opening c = daemon-opening

pub returns-clause-twice : goal.returns-clause-twice
returns-clause-twice c = daemon-twice
