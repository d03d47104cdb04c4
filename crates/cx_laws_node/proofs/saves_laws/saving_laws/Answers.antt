use Rattle.cx_laws_node.proofs.saving.ClientSaves.{client_saves_none}
use Rattle.cx_laws_node.proofs.saving.DaemonSaves.{daemon_saves_none}
use Rattle.cx_laws_node.proofs.saves_laws.saving_laws.Goals as goal

pub returns-clause-client : goal.returns-clause-client
returns-clause-client c = client_saves_none

pub returns-clause-daemon : goal.returns-clause-daemon
returns-clause-daemon c = daemon_saves_none
