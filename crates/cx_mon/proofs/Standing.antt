-- What a monitor stands for where memory is wanting.
use Rattle.std.proofs.Common.{◌≡◌, ℕ, Option, Some, None, Result, Ok, Err, ap, subst, sym}
use Rattle.std.specs.Prelude.{OnErr}
use Rattle.cx_rules.specs.Abridged.{MonitorStandsFor}
use Rattle.cx_rules.specs.Inputs.{Input}
use Rattle.cx_rules.specs.Monitor.{MonitorNode}
use Rattle.cx_rules.specs.MonitorRule.{noted}
use Rattle.cx_rules.specs.Rows.{forgotten}
use Rattle.cx_node.specs.steps.Events.{link_in}
use Rattle.cx_node.specs.steps.Steps.{without_lost}
use Rattle.cx_mon.specs.Machine.{lost}

noted_stands : (m s : MonitorNode) → MonitorStandsFor m s → MonitorStandsFor (noted m) (noted s)
noted_stands m s st = record { held = ap noted st.held; within = st.within }

module _ (loses : (m s : MonitorNode) (n : ℕ) → MonitorStandsFor m s → MonitorStandsFor (forgotten (noted m) n) (forgotten (noted s) n)) where
  by_link : (link : Option ℕ) (m s : MonitorNode) → MonitorStandsFor m s → MonitorStandsFor (without_lost link (noted m)) (without_lost link (noted s))
  by_link None m s st = noted_stands m s st
  by_link (Some number) m s st = loses m s number st

  pub monitor_loses : (m s : MonitorNode) (i : Input) → MonitorStandsFor m s → MonitorStandsFor (lost m i) (lost s i)
  monitor_loses m s i st = by_link (link_in i) m s st

pub stands_on_err : {X E : Type 0} (r : Result X E) (new a due : MonitorNode) → OnErr r (new ≡ a) → MonitorStandsFor a due → OnErr r (MonitorStandsFor new due)
stands_on_err (Err e) new a due is stands = subst (λ (m : MonitorNode). MonitorStandsFor m due) (sym is) stands
stands_on_err (Ok x) new a due is stands = tt
