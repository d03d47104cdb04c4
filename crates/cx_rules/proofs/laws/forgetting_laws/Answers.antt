use Rattle.cx_rules.proofs.MonitorForgets.{monitor-forgets, monitor-lost, monitor-opening, monitor-twice, monitor-unsaved}
use Rattle.cx_rules.proofs.laws.forgetting_laws.Goals as goal

pub returns-clause-monitor_forgets : goal.returns-clause-monitor_forgets
returns-clause-monitor_forgets c = monitor-forgets

pub returns-clause-monitor_unsaved : goal.returns-clause-monitor_unsaved
returns-clause-monitor_unsaved c = monitor-unsaved

pub returns-clause-monitor_loses : goal.returns-clause-monitor_loses
returns-clause-monitor_loses c = monitor-lost

pub returns-clause-monitor_opening : goal.returns-clause-monitor_opening
returns-clause-monitor_opening c = monitor-opening

pub returns-clause-monitor_twice : goal.returns-clause-monitor_twice
returns-clause-monitor_twice c = monitor-twice
