-- What the machines do at a step, on what they hold: their written rules, and behind each step they forget of their links what no later step reads.
use Rattle.std.specs.Prelude.{ℕ, List, [], Option, None}
use Rattle.cx_client.specs.Machine as client
use Rattle.cx_client.specs.Regards as client_links
pub use Rattle.cx_client.specs.Machine.{opening_mon_client}
use Rattle.cx_drive.specs.declared.peers.Peers.{Peers}
use Rattle.cx_outside.specs.declared.regard.Regard.{Regard}
use Rattle.cx_mon.specs.Machine as monitor
use Rattle.cx_mon.specs.Regards as monitor_links
use Rattle.cx_client.specs.cx_rules_session.specs.cx_rules.specs.Abridged.{abridged_monitor}
use Rattle.cx_client.specs.cx_rules_session.specs.Forgets.{abridged_whole_client}
use Rattle.cx_client.specs.cx_rules_session.specs.ClientRule.{WholeClientNode, whole_client_rule}
use Rattle.cx_client.specs.cx_rules_session.specs.cx_rules.specs.Inputs.{Input}
use Rattle.cx_client.specs.cx_rules_session.specs.cx_rules.specs.Monitor.{MonitorNode}
use Rattle.cx_client.specs.cx_rules_session.specs.cx_rules.specs.MonitorRule.{monitor_rule}
use Rattle.cx_client.specs.cx_rules_session.specs.cx_rules.specs.Rows.{Outcome}

abbrev pub held_monitor : MonitorNode → Input → ℕ → List ℕ → Outcome MonitorNode
held_monitor node input reading draw = record {
  state = abridged_monitor (monitor_rule node input reading draw).state;
  out = (monitor_rule node input reading draw).out;
}

abbrev pub held_client : WholeClientNode → Input → ℕ → List ℕ → Outcome WholeClientNode
held_client node input reading draw = record {
  state = abridged_whole_client (whole_client_rule node input reading draw).state;
  out = (whole_client_rule node input reading draw).out;
}

-- a node that opens no links knows no addresses
abbrev pub no_peers : Peers
no_peers = record { monitor = None; daemons = [] }

-- what is left of either where memory is wanting
abbrev pub lost_monitor : MonitorNode → Input → MonitorNode
lost_monitor node input = monitor.lost node input

abbrev pub lost_client : WholeClientNode → Input → WholeClientNode
lost_client node input = client.lost node input

-- how either regards a link
abbrev pub regard_monitor : MonitorNode → ℕ → Option Regard
regard_monitor node link = monitor_links.regard_of node link

abbrev pub regard_client : WholeClientNode → ℕ → Option Regard
regard_client node link = client_links.regard_of node link
