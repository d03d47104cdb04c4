use Rattle.cx_laws_due.proofs.Lifting.{as-connector, to-daemon, to-monitor}
use Rattle.cx_laws_due.proofs.laws.lifting_laws.Goals as goal

pub returns-clause-to_monitor : goal.returns-clause-to_monitor
returns-clause-to_monitor c = to-monitor

pub returns-clause-to_daemon : goal.returns-clause-to_daemon
returns-clause-to_daemon c = to-daemon

pub returns-clause-as_connector : goal.returns-clause-as_connector
returns-clause-as_connector c = as-connector
