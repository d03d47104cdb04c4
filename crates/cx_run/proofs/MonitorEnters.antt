-- What a step of the monitor enters in a run, also where its save fails.
use Rattle.std.proofs.Common.{ℕ, List, Option, Some, None}
use Rattle.std.specs.List.{AllByRecursion}
use Rattle.cx_lines.specs.cx_words.specs.declared.choices.LeftState.{LeftState}
use Rattle.cx_rules_session.specs.cx_rotate.specs.declared.states.KeptState.{KeptState}
use Rattle.cx_rules_session.specs.cx_rules.specs.Inputs.{Input}
use Rattle.cx_rules_session.specs.cx_rules.specs.Monitor.{MonitorNode}
use Rattle.cx_rules_session.specs.cx_rules.specs.MonitorRule.{monitor_rule, noted}
use Rattle.cx_rules_session.specs.cx_rules.specs.Rows.{Outcome}
use Rattle.cx_rules_session.specs.cx_rules.proofs.MonitorEnters.{IsOfMonitor, step-enters}
use Rattle.cx_run.specs.Happenings.{Nodes, monitor_steps}

pub monitor-enters : (nodes : Nodes) (input : Input) (reading : ℕ) (draw : List ℕ) (l : Option LeftState) →
    let o = monitor_rule nodes.monitor input reading draw in AllByRecursion IsOfMonitor (monitor_steps nodes o l o.out.save).out.entries
monitor-enters nodes input reading draw l =
    let o : Outcome MonitorNode = monitor_rule nodes.monitor input reading draw in by_save o l o.out.save (step-enters (noted nodes.monitor) input reading draw)
  where
    by_save : (o : Outcome MonitorNode) (l : Option LeftState) (saved : Option KeptState) → AllByRecursion IsOfMonitor o.out.entries
        → AllByRecursion IsOfMonitor (monitor_steps nodes o l saved).out.entries
    by_save o (Some l) (Some saved) h = tt
    by_save o None saved h = h
    by_save o (Some l) None h = h
