-- What the monitor enters, whatever comes: nothing of a daemon's sessions; at most that it began anew.
use Rattle.std.proofs.Common.{ℕ, List, Option}
use Rattle.std.specs.List.{AllByRecursion}
use Rattle.cx_run.specs.cx_rules.specs.Inputs.{Input}
use Rattle.cx_run.specs.cx_rules.specs.Monitor.{Monitor, MonitorNode}
use Rattle.cx_run.specs.cx_rules.specs.MonitorRule.{monitor_rule}
use Rattle.cx_run.specs.cx_rules.specs.Rows.{Outcome, at}
use Rattle.cx_base.specs.declared.nodes.NodeName.TheVariants as node
use Rattle.cx_words.specs.declared.choices.LeftState.{LeftState}
use Rattle.cx_run.specs.Happenings.{Nodes, monitor_steps}
use Rattle.cx_laws_sessions.proofs.session.Clients.{IsMute}
use Rattle.cx_laws_sessions.proofs.session.Lists.{all-map}
use Rattle.cx_run.specs.cx_rules.proofs.MonitorEnters.{IsOfMonitor}
use Rattle.cx_run.proofs.MonitorEnters.{monitor-enters}
use Rattle.cx_journal.specs.declared.entries.Entry.{Entry}
use Rattle.cx_journal.specs.declared.entries.Entry.TheVariants as entry

entered-mute : (e : Entry) → IsOfMonitor e → IsMute node.Monitor e
entered-mute (entry.Issued ticket) h = tt
entered-mute (entry.Saved gid) h = tt
entered-mute (entry.Refused r) h = tt
entered-mute (entry.Restarted at) h = h
entered-mute _ h = absurd h

-- also where its save fails
pub monitor-mute : (nodes : Nodes) (input : Input) (reading : ℕ) (draw : List ℕ) (l : Option LeftState) →
    let o = monitor_rule nodes.monitor input reading draw in AllByRecursion (IsMute node.Monitor) (monitor_steps nodes o l o.out.save).out.entries
monitor-mute nodes input reading draw l =
    let o : Outcome MonitorNode = monitor_rule nodes.monitor input reading draw in
    all-map IsOfMonitor (IsMute node.Monitor) entered-mute (monitor_steps nodes o l o.out.save).out.entries (monitor-enters nodes input reading draw l)
