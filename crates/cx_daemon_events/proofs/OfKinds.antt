-- What is so of a link of a kind, or of a row that was made on one, is so of it as one of the daemon.
use Rattle.std.proofs.Common.{◌≡◌, ◌∙◌, ℕ, List, ◌++◌, Option, Some, None, Result, Ok, Err, refl, sym, ap}
use Rattle.std.specs.Prelude.{IfSome, OnOk}
use Rattle.std.specs.Option.{option_map}
use Rattle.cx_node.specs.Made.{as_row}
use Rattle.cx_node.specs.cx_rules.specs.Abridged.{abridged_mon_client_link, abridged_link}
use Rattle.cx_node.specs.cx_rules.specs.Connector as connector
use Rattle.cx_node.specs.cx_rules.specs.Links.{Link}
use Rattle.cx_node.specs.cx_rules.specs.Rows.{Row, Turned, Waits, Refuses, Handles}
use Rattle.cx_verifying.specs.cx_rules_session.specs.DaemonRule.{DaemonStage, AsAcceptor, AsConnector}
use Rattle.cx_verifying.specs.cx_rules_session.specs.Forgets.{abridged_daemon_link}
use Rattle.cx_verifying.specs.cx_rules_session.specs.IncomingLinks.{IncomingStage}
use Rattle.cx_verifying.specs.cx_rules_session.specs.Kinds.{of_kind, row_of_kind, turn_of_kind}
use Rattle.cx_verifying.specs.cx_rules_session.proofs.KindsAlike.{FollowsKind}
use Rattle.cx_node.specs.steps.Making.{own_behind, row_due}
use Rattle.cx_node.specs.steps.Steps.{IsFed, IsTurn, Stays, turn_due, turn_made}
use Rattle.cx_node.specs.steps.Turns.{HasNumber}
use Rattle.cx_node.specs.declared.came.Came.{Came}
use Rattle.cx_node.specs.declared.came.Came.TheVariants as came
use Rattle.cx_daemon_events.specs.Kinds.{DaemonLink, came_of_kind, made_of_kind}

-- ---- links

pub incoming_follows : FollowsKind AsAcceptor abridged_link abridged_daemon_link
incoming_follows l = refl

pub own_follows : FollowsKind AsConnector abridged_mon_client_link abridged_daemon_link
own_follows l = refl

module _ {S : Type 0} (kind : S → DaemonStage) (own : Link S → Link S) (follows : FollowsKind kind own abridged_daemon_link) where
  fed_of_kind : (bytes : List ℕ) (old new : Link S) → IsFed own old bytes new → IsFed abridged_daemon_link (of_kind kind old) bytes (of_kind kind new)
  fed_of_kind bytes old new is =
      let as_one : Link S → DaemonLink = λ l. of_kind kind l in
      (ap as_one is.0, follows new ∙ ap as_one is.1)

  fed_result : {X E : Type 0} (bytes : List ℕ) (old new : Link S) (r : Result X E) → OnOk r (IsFed own old bytes new)
      → OnOk r (IsFed abridged_daemon_link (of_kind kind old) bytes (of_kind kind new))
  fed_result bytes old new (Ok x) is = fed_of_kind bytes old new is
  fed_result bytes old new (Err e) is = tt

pub incoming_fed : {X E : Type 0} (bytes : List ℕ) (old new : Link IncomingStage) (r : Result X E) → OnOk r (IsFed abridged_link old bytes new)
    → OnOk r (IsFed abridged_daemon_link (of_kind AsAcceptor old) bytes (of_kind AsAcceptor new))
incoming_fed bytes old new r is = fed_result AsAcceptor abridged_link incoming_follows bytes old new r is

pub own_fed : {X E : Type 0} (bytes : List ℕ) (old new : Link connector.Stage) (r : Result X E) → OnOk r (IsFed abridged_mon_client_link old bytes new)
    → OnOk r (IsFed abridged_daemon_link (of_kind AsConnector old) bytes (of_kind AsConnector new))
own_fed bytes old new r is = fed_result AsConnector abridged_mon_client_link own_follows bytes old new r is

-- ---- rows

module _ {Part Own S : Type 0} (put : Part → Own) (kind : S → DaemonStage) (own : Link S → Link S) (follows : FollowsKind kind own abridged_daemon_link) where
  link_due : (bytes : List ℕ) (link : Option (Link S))
      → option_map (of_kind kind) (option_map (λ l. own (record l { sent = l.sent ++ bytes })) link)
      ≡ option_map (λ l. abridged_daemon_link (record l { sent = l.sent ++ bytes })) (option_map (of_kind kind) link)
  link_due bytes None = refl
  link_due bytes (Some l) =
      let some : DaemonLink → Option DaemonLink = λ k. Some k in ap some (sym (follows (record l { sent = l.sent ++ bytes })))

  due_of_kind : (R : Row Part S) → row_of_kind put kind (row_due own R) ≡ row_due abridged_daemon_link (row_of_kind put kind R)
  due_of_kind R =
      let with : Option DaemonLink → Row Own DaemonStage = λ link. record (row_of_kind put kind R) { link = link } in ap with (link_due R.sends R.link)

-- ---- turns

module _ {Part Own S C D : Type 0} (put : Part → Own) (kind : S → DaemonStage) (own : Link S → Link S) (follows : FollowsKind kind own abridged_daemon_link)
    (part_changed : Part → C → Part) (changed : Own → D → Own) (changes : Option C → Option D) (part : Part)
    (same : (change : Option C) → put (own_behind part_changed part change) ≡ own_behind changed (put part) (changes change)) where
  turn_due_of_kind : (T : Turned Part S) → turn_of_kind put kind (turn_due own T) ≡ turn_due abridged_daemon_link (turn_of_kind put kind T)
  turn_due_of_kind Waits = refl
  turn_due_of_kind (Refuses why opened) = refl
  turn_due_of_kind (Handles R) = let handled : Row Own DaemonStage → Turned Own DaemonStage = λ r. Handles r in ap handled (due_of_kind put kind own follows R)

  turn_made_of_kind : (come : Came (Link S) C) → turn_made changed (put part) (came_of_kind kind changes come) ≡ turn_of_kind put kind (turn_made part_changed part come)
  turn_made_of_kind (came.Waits link) = refl
  turn_made_of_kind (came.Refuses why opened) = refl
  turn_made_of_kind (came.Handles made) =
      let handled : Own → Turned Own DaemonStage = λ o. Handles (as_row o (made_of_kind kind made.row)) in ap handled (sym (same made.change))

  stays_of_kind : (link : Link S) (come : Came (Link S) C) → Stays link come → Stays (of_kind kind link) (came_of_kind kind changes come)
  stays_of_kind link (came.Waits new) is = let as_one : Link S → DaemonLink = λ l. of_kind kind l in ap as_one is
  stays_of_kind link (came.Refuses why opened) is = tt
  stays_of_kind link (came.Handles made) is = tt

  some_number : (number : ℕ) (link : Option (Link S)) → IfSome link (λ l. l.number ≡ number) → IfSome (option_map (of_kind kind) link) (λ l. l.number ≡ number)
  some_number number None is = tt
  some_number number (Some l) is = is

  number_of_kind : (number : ℕ) (come : Came (Link S) C) → HasNumber (λ (l : Link S). l.number) number come
      → HasNumber (λ (l : DaemonLink). l.number) number (came_of_kind kind changes come)
  number_of_kind number (came.Waits link) is = is
  number_of_kind number (came.Refuses why opened) is = tt
  number_of_kind number (came.Handles made) is = some_number number made.row.link is

  -- a turn of a link of a kind came to what is due of it
  pub turn_lifts : (link : Link S) (T : Turned Part S) (come : Came (Link S) C) → IsTurn own part_changed part link T come
      → IsTurn abridged_daemon_link changed (put part) (of_kind kind link) (turn_of_kind put kind T) (came_of_kind kind changes come)
  turn_lifts link T come t =
      let as_one : Turned Part S → Turned Own DaemonStage = λ u. turn_of_kind put kind u in
      record {
        made = turn_made_of_kind come ∙ ap as_one t.made ∙ turn_due_of_kind T;
        stays = stays_of_kind link come t.stays;
        number_is = number_of_kind link.number come t.number_is;
      }
