-- Turns of a daemon's links, with what they change of its own.
use Rattle.std.specs.Prelude.{ℕ, List}
use Rattle.cx_monclient.specs.connector.Rows.{changed}
use Rattle.cx_monclient.specs.declared.rows.Change.{Change}
use Rattle.cx_node.specs.cx_rules.specs.Connector as connector
use Rattle.cx_node.specs.cx_rules.specs.Links.{Link}
use Rattle.cx_node.specs.cx_rules.specs.Rows.{Turned, arrival}
use Rattle.cx_verifying.specs.cx_rules_session.specs.DaemonRule.{AsConnector, Daemon, DaemonStage, me, with_mon_client}
use Rattle.cx_verifying.specs.cx_rules_session.specs.Forgets.{abridged_daemon_link}
use Rattle.cx_verifying.specs.cx_rules_session.specs.Kinds.{of_kind, turn_of_kind}
use Rattle.cx_node.specs.steps.Steps.{IsTurn}
use Rattle.cx_node.specs.declared.came.Came.{Came}
use Rattle.cx_daemon_events.specs.Kinds.{DaemonLink}

-- a daemon that holds what a row of a link to the monitor changes
abbrev pub with_change : Daemon → Change → Daemon
with_change own change = with_mon_client own (changed own.mon_client change)

-- what the rules have a turn of a link to the monitor come to
abbrev pub own_due : Daemon → ℕ → List ℕ → Link connector.Stage → Turned Daemon DaemonStage
own_due own reading draw link =
    turn_of_kind (with_mon_client own) AsConnector (connector.turned_at (arrival (me own) own.mon_client link reading draw) link.stage)

-- a turn of it came to that
abbrev pub IsOwnTurn : Daemon → ℕ → List ℕ → Link connector.Stage → Came DaemonLink Change → Type 0
IsOwnTurn own reading draw link come = IsTurn abridged_daemon_link with_change own (of_kind AsConnector link) (own_due own reading draw link) come
