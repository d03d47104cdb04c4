use Rattle.cx_run.proofs.Turning.{enough, takes, unrolls}
use Rattle.cx_run.proofs.Untaken.{client-untaken, daemon-untaken, monitor-untaken}
use Rattle.cx_run.proofs.laws.turning_laws.Goals as goal

pub returns-clause-unrolls : goal.returns-clause-unrolls
returns-clause-unrolls c = unrolls

pub returns-clause-takes : goal.returns-clause-takes
returns-clause-takes c = takes

pub returns-clause-enough : goal.returns-clause-enough
returns-clause-enough c = enough

pub returns-clause-monitor_held : goal.returns-clause-monitor_held
returns-clause-monitor_held c = monitor-untaken

pub returns-clause-client_held : goal.returns-clause-client_held
returns-clause-client_held c = client-untaken

pub returns-clause-daemon_held : goal.returns-clause-daemon_held
returns-clause-daemon_held c = daemon-untaken
