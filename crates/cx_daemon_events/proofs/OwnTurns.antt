-- A turn of a link to the monitor came to what is due.
use Rattle.std.proofs.Common.{◌≡◌, ℕ, Option, Some, None, refl, subst}
use Rattle.cx_monclient.specs.connector.Rows.{IsMonClientTurn, arrived, changed}
use Rattle.cx_monclient.specs.declared.rows.Change.{Change}
use Rattle.cx_node.specs.cx_rules.specs.Abridged.{abridged_mon_client_link}
use Rattle.cx_node.specs.cx_rules.specs.Connector as connector
use Rattle.cx_node.specs.cx_rules.specs.Links.{Link}
use Rattle.cx_verifying.specs.cx_rules_session.specs.DaemonRule.{AsConnector, Daemon, with_mon_client}
use Rattle.cx_node.specs.steps.Making.{own_behind}
use Rattle.cx_node.specs.steps.Turns.{HasNumber}
use Rattle.cx_node.specs.declared.came.Came.{Came}
use Rattle.cx_node.specs.declared.moments.Moment.{Moment}
use Rattle.cx_daemon_events.specs.Kinds.{DaemonLink, came_of_kind}
use Rattle.cx_daemon_events.specs.Turns.{IsOwnTurn, with_change}
use Rattle.cx_daemon_events.proofs.OfKinds.{own_follows, turn_lifts}

own_change : (own : Daemon) (change : Option Change) → with_mon_client own (own_behind changed own.mon_client change) ≡ own_behind with_change own change
own_change own None = refl
own_change own (Some change) = refl

own_come : (own : Daemon) (at : Moment) (link : Link connector.Stage) (come : Came (Link connector.Stage) Change) → IsMonClientTurn own.mon_client at link come
    → IsOwnTurn own at.reading at.draw.now.bytes link (came_of_kind AsConnector (λ change. change) come)
own_come own at link come t =
    turn_lifts (with_mon_client own) AsConnector abridged_mon_client_link own_follows changed with_change (λ change. change) own.mon_client (own_change own) link
    (connector.turned_at (arrived own.mon_client at link) link.stage) come t

pub own_turn : (own : Daemon) (at : Moment) (link : Link connector.Stage) (came : Came (Link connector.Stage) Change) → IsMonClientTurn own.mon_client at link came
    → IsOwnTurn own at.reading at.draw.now.bytes link (came_of_kind AsConnector (λ change. change) came)
own_turn own at link came t = own_come own at link came t

pub own_number : (own : Daemon) (at : Moment) (link : Link connector.Stage) (came : Came (Link connector.Stage) Change) → link.number ≡ at.number → IsMonClientTurn own.mon_client at link came
    → HasNumber (λ (l : DaemonLink). l.number) at.number (came_of_kind AsConnector (λ change. change) came)
own_number own at link came e t =
    subst (λ (n : ℕ). HasNumber (λ (l : DaemonLink). l.number) n (came_of_kind AsConnector (λ change. change) came)) e (own_come own at link came t).number_is
