-- What is so of a link of a kind, or of a row that was made on one, is so of it as one of the node.
use Rattle.std.proofs.Common.{◌≡◌, ◌∙◌, ℕ, List, ◌++◌, Option, Some, None, Result, Ok, Err, refl, sym, ap}
use Rattle.std.specs.Prelude.{IfSome, OnOk}
use Rattle.std.specs.Option.{option_map}
use Rattle.cx_node.specs.Made.{as_row}
use Rattle.cx_node.specs.declared.rows.Row.{Row as Made}
use Rattle.cx_rules_session.specs.cx_rules.specs.Links.{Link}
use Rattle.cx_rules_session.specs.cx_rules.specs.Rows.{Row, Turned, Waits, Refuses, Handles}
use Rattle.cx_rules_session.specs.Kinds.{of_kind, row_of_kind, turn_of_kind}
use Rattle.cx_rules_session.proofs.KindsAlike.{FollowsKind}
use Rattle.cx_node.specs.steps.Making.{own_behind, row_due}
use Rattle.cx_node.specs.steps.Steps.{IsFed, IsTurn, Stays, turn_due, turn_made}
use Rattle.cx_node.specs.steps.Turns.{HasNumber}
use Rattle.cx_node.specs.declared.came.Came.{Came}
use Rattle.cx_node.specs.declared.came.Came.TheVariants as came
use Rattle.cx_node.specs.kinds.Made.{came_of_kind, made_of_kind}

-- ---- links

module _ {S T : Type 0} (kind : S → T) (own : Link S → Link S) (whole : Link T → Link T) (follows : FollowsKind kind own whole) where
  fed_of_kind : (bytes : List ℕ) (old new : Link S) → IsFed own old bytes new → IsFed whole (of_kind kind old) bytes (of_kind kind new)
  fed_of_kind bytes old new is =
      let as_one : Link S → Link T = λ l. of_kind kind l in
      (ap as_one is.0, follows new ∙ ap as_one is.1)

  -- a link of a kind behind more bytes
  pub fed_result : {X E : Type 0} (bytes : List ℕ) (old new : Link S) (r : Result X E) → OnOk r (IsFed own old bytes new)
      → OnOk r (IsFed whole (of_kind kind old) bytes (of_kind kind new))
  fed_result bytes old new (Ok x) is = fed_of_kind bytes old new is
  fed_result bytes old new (Err e) is = tt

-- ---- rows

module _ {Part Own S T : Type 0} (put : Part → Own) (kind : S → T) (own : Link S → Link S) (whole : Link T → Link T) (follows : FollowsKind kind own whole) where
  link_due : (bytes : List ℕ) (link : Option (Link S))
      → option_map (of_kind kind) (option_map (λ l. own (record l { sent = l.sent ++ bytes })) link)
      ≡ option_map (λ l. whole (record l { sent = l.sent ++ bytes })) (option_map (of_kind kind) link)
  link_due bytes None = refl
  link_due bytes (Some l) =
      let some : Link T → Option (Link T) = λ k. Some k in ap some (sym (follows (record l { sent = l.sent ++ bytes })))

  due_of_kind : (R : Row Part S) → row_of_kind put kind (row_due own R) ≡ row_due whole (row_of_kind put kind R)
  due_of_kind R =
      let with : Option (Link T) → Row Own T = λ link. record (row_of_kind put kind R) { link = link } in ap with (link_due R.sends R.link)

  -- a row that was made as it is due of its kind was made as it is due
  pub made_due : (part : Part) (row : Made (Link S)) (R : Row Part S) → as_row part row ≡ row_due own R
      → as_row (put part) (made_of_kind kind row) ≡ row_due whole (row_of_kind put kind R)
  made_due part row R is = let as_one : Row Part S → Row Own T = λ r. row_of_kind put kind r in ap as_one is ∙ due_of_kind R

-- ---- turns

module _ {Part Own S T C D : Type 0} (put : Part → Own) (kind : S → T) (own : Link S → Link S) (whole : Link T → Link T) (follows : FollowsKind kind own whole)
    (part_changed : Part → C → Part) (changed : Own → D → Own) (changes : Option C → Option D) (part : Part)
    (same : (change : Option C) → put (own_behind part_changed part change) ≡ own_behind changed (put part) (changes change)) where
  turn_due_of_kind : (due : Turned Part S) → turn_of_kind put kind (turn_due own due) ≡ turn_due whole (turn_of_kind put kind due)
  turn_due_of_kind Waits = refl
  turn_due_of_kind (Refuses why opened) = refl
  turn_due_of_kind (Handles R) = let handled : Row Own T → Turned Own T = λ r. Handles r in ap handled (due_of_kind put kind own whole follows R)

  turn_made_of_kind : (come : Came (Link S) C) → turn_made changed (put part) (came_of_kind kind changes come) ≡ turn_of_kind put kind (turn_made part_changed part come)
  turn_made_of_kind (came.Waits link) = refl
  turn_made_of_kind (came.Refuses why opened) = refl
  turn_made_of_kind (came.Handles made) =
      let handled : Own → Turned Own T = λ o. Handles (as_row o (made_of_kind kind made.row)) in ap handled (sym (same made.change))

  stays_of_kind : (link : Link S) (come : Came (Link S) C) → Stays link come → Stays (of_kind kind link) (came_of_kind kind changes come)
  stays_of_kind link (came.Waits new) is = let as_one : Link S → Link T = λ l. of_kind kind l in ap as_one is
  stays_of_kind link (came.Refuses why opened) is = tt
  stays_of_kind link (came.Handles made) is = tt

  some_number : (number : ℕ) (link : Option (Link S)) → IfSome link (λ l. l.number ≡ number) → IfSome (option_map (of_kind kind) link) (λ l. l.number ≡ number)
  some_number number None is = tt
  some_number number (Some l) is = is

  number_of_kind : (number : ℕ) (come : Came (Link S) C) → HasNumber (λ (l : Link S). l.number) number come
      → HasNumber (λ (l : Link T). l.number) number (came_of_kind kind changes come)
  number_of_kind number (came.Waits link) is = is
  number_of_kind number (came.Refuses why opened) is = tt
  number_of_kind number (came.Handles made) is = some_number number made.row.link is

  -- a turn of a link of a kind came to what is due of it
  pub turn_lifts : (link : Link S) (due : Turned Part S) (come : Came (Link S) C) → IsTurn own part_changed part link due come
      → IsTurn whole changed (put part) (of_kind kind link) (turn_of_kind put kind due) (came_of_kind kind changes come)
  turn_lifts link due come t =
      let as_one : Turned Part S → Turned Own T = λ u. turn_of_kind put kind u in
      record {
        made = turn_made_of_kind come ∙ ap as_one t.made ∙ turn_due_of_kind due;
        stays = stays_of_kind link come t.stays;
        number_is = number_of_kind link.number come t.number_is;
      }
