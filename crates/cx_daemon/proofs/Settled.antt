-- What a turn that was settled leaves of the links, and a turn of the daemon's own link.
use Rattle.std.proofs.Common.{◌≡◌, ◌∙◌, ℕ, List, Some, None, Result, Ok, Err, IfOk, refl, ap}
use Rattle.cx_daemon_events.specs.cx_authorize.specs.Daemon.{Authority}
use Rattle.cx_base.specs.declared.nodes.NodeName.{NodeName}
use Rattle.cx_daemon_events.specs.cx_monclient.specs.declared.rows.Change.{Change}
use Rattle.cx_desk.specs.Handlers.{Handlers}
use Rattle.cx_node.specs.cx_rules.specs.Connector as connector
use Rattle.cx_node.specs.cx_rules.specs.Links.{Link, link_of, without_link}
use Rattle.cx_daemon_events.specs.cx_rules_session.specs.DaemonRule.{AsConnector, Daemon, me}
use Rattle.cx_daemon_events.specs.cx_rules_session.specs.Forgets.{abridged_daemon_link}
use Rattle.cx_daemon_events.specs.cx_rules_session.specs.Kinds.{of_kind}
use Rattle.cx_daemon_events.specs.cx_rules_session.proofs.DaemonForgets.{daemon-forgets-links}
use Rattle.cx_session.specs.Book.{Book}
use Rattle.cx_steps.specs.declared.effects.Effects.{Effects}
use Rattle.cx_node.specs.steps.Turns.{HasNumber, IsSettled, IsTurned}
use Rattle.cx_node.specs.declared.came.Came.{Came}
use Rattle.cx_node.specs.declared.came.Came.TheVariants as came
use Rattle.cx_node.specs.declared.moments.Moment.{Moment}
use Rattle.cx_node.proofs.steps.Turning.{settled}
use Rattle.cx_daemon_events.specs.Kinds.{DaemonLink}
use Rattle.cx_daemon_events.specs.Machine.{AreHeld}
use Rattle.cx_daemon_events.specs.Turns.{IsOwnTurn, own_due, with_change}
use Rattle.cx_daemon.specs.Turned.{IsLinkTurned}
use Rattle.cx_daemon.proofs.Behind.{left_behind}

module _ (own new : Daemon) (name : NodeName) (number : ℕ) (all links : List DaemonLink) (out : Effects) where
  -- but for the link that was turned all are as before
  pub settled_left : (come : Came DaemonLink Change) → HasNumber (λ (l : DaemonLink). l.number) number come → AreHeld all
      → IsSettled (λ (l : DaemonLink). l.number) with_change name number come (record { own = own; links = all }) (record { own = new; links = links }) out
      → without_link number links ≡ without_link number all
  settled_left (came.Waits link) n h s = ap (without_link number) s.1 ∙ left_behind number (Some link) all h.rising n
  settled_left (came.Refuses why opened) n h s = ap (without_link number) s.1.links_behind ∙ left_behind number None all h.rising tt
  settled_left (came.Handles made) n h s = ap (without_link number) s.1.links_behind ∙ left_behind number made.row.link all h.rising n

pub own_turned_by : (handlers : Handlers) (at : Moment) (link : Link connector.Stage) (own new : Daemon) (all links : List DaemonLink) (book : Book Authority) (given : Effects)
    → link.number ≡ at.number → AreHeld all → link_of at.number all ≡ Some (of_kind AsConnector link)
    → IsTurned (λ (l : DaemonLink). l.number) with_change (me own) at.number (IsOwnTurn own at.reading at.draw.now.bytes link)
    (record { own = own; links = all }) (record { own = new; links = links }) given
    → IsLinkTurned handlers at (of_kind AsConnector link) own new all links book book given
own_turned_by handlers at link own new all links book given n h found s =
    let done = settled abridged_daemon_link daemon-forgets-links with_change (me own) at.reading at.draw.now.bytes own new at.number (of_kind AsConnector link) all links given
    (own_due own at.reading at.draw.now.bytes link) s.came s.come n h found s.settled in
    record { step = (done.0, refl); held = done.1 }

pub own_turned_result : {E : Type 0} (handlers : Handlers) (at : Moment) (L : DaemonLink) (link : Link connector.Stage) (own new : Daemon) (all links : List DaemonLink)
    (book : Book Authority) (r : Result Effects E) → L ≡ of_kind AsConnector link → L.number ≡ at.number → AreHeld all → link_of at.number all ≡ Some L
    → IfOk r (λ given. IsTurned (λ (l : DaemonLink). l.number) with_change (me own) at.number (IsOwnTurn own at.reading at.draw.now.bytes link)
    (record { own = own; links = all }) (record { own = new; links = links }) given)
    → IfOk r (IsLinkTurned handlers at L own new all links book book)
own_turned_result handlers at L link own new all links book (Err e) is n h found s = tt
own_turned_result handlers at L link own new all links book (Ok given) is n h found s =
    let n' = rw is at n in
    let found' = rw is at found in
    rw is (own_turned_by handlers at link own new all links book given n' h found' s)
