use Rattle.cx_node.proofs.Sameness.{are_the_links, are_the_rows, is_the_denial}
use Rattle.cx_node.proofs.laws.node_laws.Goals as goal

pub returns-clause-monitor_links : goal.returns-clause-monitor_links
returns-clause-monitor_links c = are_the_links _

pub returns-clause-monitor_rows : goal.returns-clause-monitor_rows
returns-clause-monitor_rows c = are_the_rows _ _

pub returns-clause-monitor_denial : goal.returns-clause-monitor_denial
returns-clause-monitor_denial c = is_the_denial _ _ _ _

pub returns-clause-mon_client_links : goal.returns-clause-mon_client_links
returns-clause-mon_client_links c = are_the_links _

pub returns-clause-mon_client_rows : goal.returns-clause-mon_client_rows
returns-clause-mon_client_rows c = are_the_rows _ _
