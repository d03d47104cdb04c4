-- Links of each kind are abridged as those of the client.
use Rattle.std.proofs.Common.{ℕ, List, Result, refl}
use Rattle.std.specs.Prelude.{OnOk}
use Rattle.cx_node.proofs.kinds.OfKinds.{fed_result}
use Rattle.cx_node.specs.cx_rules.specs.Abridged.{abridged_mon_client_link}
use Rattle.cx_node.specs.cx_rules.specs.Connector as connector
use Rattle.cx_node.specs.cx_rules.specs.Links.{Link}
use Rattle.cx_node.specs.cx_rules_session.specs.ClientRule.{ToMonitor, ToDaemon}
use Rattle.cx_node.specs.cx_rules_session.specs.Forgets.{abridged_call_link, abridged_client_link}
use Rattle.cx_node.specs.cx_rules_session.specs.Kinds.{of_kind}
use Rattle.cx_node.specs.cx_rules_session.specs.Presenter.{CallStage}
use Rattle.cx_node.specs.cx_rules_session.proofs.KindsAlike.{FollowsKind}
use Rattle.cx_node.specs.steps.Steps.{IsFed}

pub monitor_follows : FollowsKind ToMonitor abridged_mon_client_link abridged_client_link
monitor_follows l = refl

pub daemon_follows : FollowsKind ToDaemon abridged_call_link abridged_client_link
daemon_follows l = refl

pub monitor_fed : {X E : Type 0} (bytes : List ℕ) (old new : Link connector.Stage) (r : Result X E) → OnOk r (IsFed abridged_mon_client_link old bytes new)
    → OnOk r (IsFed abridged_client_link (of_kind ToMonitor old) bytes (of_kind ToMonitor new))
monitor_fed bytes old new r is = fed_result ToMonitor abridged_mon_client_link abridged_client_link monitor_follows bytes old new r is

pub daemon_fed : {X E : Type 0} (bytes : List ℕ) (old new : Link CallStage) (r : Result X E) → OnOk r (IsFed abridged_call_link old bytes new)
    → OnOk r (IsFed abridged_client_link (of_kind ToDaemon old) bytes (of_kind ToDaemon new))
daemon_fed bytes old new r is = fed_result ToDaemon abridged_call_link abridged_client_link daemon_follows bytes old new r is
