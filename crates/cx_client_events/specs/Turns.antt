-- Turns of a client's links, with what they change of its own.
use Rattle.std.specs.Prelude.{ℕ, List}
use Rattle.cx_client_events.specs.cx_monclient.specs.connector.Rows as monitor
use Rattle.cx_client_events.specs.cx_client_connect.specs.presenting.Rows as daemon
use Rattle.cx_node.specs.cx_rules.specs.Rows.{Turned, arrival}
use Rattle.cx_client_events.specs.cx_rules_session.specs.ClientRule.{ClientStage, WholeClient, caller_to, me, turned_at, with_mon_client, with_caller}
use Rattle.cx_client_events.specs.cx_rules_session.specs.Forgets.{abridged_client_link}
use Rattle.cx_node.specs.steps.Steps.{IsTurn}
use Rattle.cx_node.specs.declared.came.Came.{Came}
use Rattle.cx_client_events.specs.linking.Kinds.{ClientLink}
use Rattle.cx_client_events.specs.declared.kinds.Change.{Change}
use Rattle.cx_client_events.specs.declared.kinds.Change.TheVariants.{Asked, Called}

-- a client that holds what a row of either kind changes
abbrev pub with_change : WholeClient → Change → WholeClient
with_change own (Asked change) = with_mon_client own (monitor.changed own.mon_client change)
with_change own (Called name change) = with_caller name own (daemon.changed (caller_to name own) change)

-- what the rules have a turn of a link come to
abbrev pub turn_due : WholeClient → ℕ → List ℕ → ClientLink → Turned WholeClient ClientStage
turn_due own reading draw link = turned_at (arrival (me own) own link reading draw) link.stage

-- a turn of it came to that
abbrev pub IsClientTurn : WholeClient → ℕ → List ℕ → ClientLink → Came ClientLink Change → Type 0
IsClientTurn own reading draw link come = IsTurn abridged_client_link with_change own link (turn_due own reading draw link) come
