use Rattle.cx_rules.proofs.MonClientDrawing.{mon_client-logs}
use Rattle.cx_rules.proofs.Drawing.{monitor-logs}
use Rattle.cx_rules.proofs.Naming.{monitor-judged, monitor-names}
use Rattle.cx_rules.proofs.laws.rule_laws.Goals as goal

pub returns-clause-judged : goal.returns-clause-judged
returns-clause-judged c = monitor-judged

pub returns-clause-monitor_links : goal.returns-clause-monitor_links
returns-clause-monitor_links c = monitor-names

pub returns-clause-monitor_draws : goal.returns-clause-monitor_draws
returns-clause-monitor_draws c = monitor-logs

pub returns-clause-mon_client_draws : goal.returns-clause-mon_client_draws
returns-clause-mon_client_draws c = λ a. mon_client-logs a a.link.stage
