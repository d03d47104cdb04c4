-- A turn that is settled is a step of the rules, abridged, and the links are held behind it as before.
use Rattle.std.proofs.Common.{◌≡◌, ◌∙◌, ℕ, ◌==◌, Bool, true, false, cond, List, [], ◌∷◌, Option, Some, None, Result, Ok, Err, IfOk, OnErr, refl, sym, ap, subst, arith}
use Rattle.std.proofs.lemmas.Bool.Decides.{nat_tests}
use Rattle.cx_base.specs.declared.nodes.NodeName.{NodeName}
use Rattle.cx_journal.specs.declared.faults.BytesFault.{BytesFault}
use Rattle.cx_node.specs.Made.{as_row, refusing_bytes}
use Rattle.cx_node.specs.declared.rows.Row.{Row as Made}
use Rattle.cx_node.specs.cx_rules.specs.Links.{Link, link_of, put_link, without_link}
use Rattle.cx_node.specs.cx_rules.specs.Rows.{Node, Outcome, Row, Turned, Waits, Refuses, Handles, arrival, carried_out, idles, refuses_bytes, turns}
use Rattle.cx_steps.specs.declared.effects.Effects.{Effects}
use Rattle.cx_steps.specs.declared.seals.SealEntry.{SealEntry}
use Rattle.cx_node.specs.steps.Making.{own_behind, row_due}
use Rattle.cx_node.specs.steps.Steps.{AreHeld, IsStep, IsTurn, node_of, turn_due, turn_made}
use Rattle.cx_node.specs.steps.Turns.{IsSettled, Turning}
use Rattle.cx_node.specs.declared.came.Came.{Came}
use Rattle.cx_node.specs.declared.came.Came.TheVariants as came
use Rattle.cx_node.specs.declared.steps_rows.NodeRow.{NodeRow}
use Rattle.cx_node.proofs.steps.Steps.{row_held, row_step, without_held}
use Rattle.cx_node.proofs.steps.Rising.{found_put}
use Rattle.cx_node.specs.cx_rules.proofs.Abridging.{Forgets}

module _ {Own Stage Change : Type 0} (abridged : Link Stage → Link Stage) (forgets : Forgets abridged) (changed : Own → Change → Own) (me : NodeName)
    (reading : ℕ) (draw : List ℕ) (own new : Own) (number : ℕ) (link : Link Stage) (all links : List (Link Stage)) (out : Effects) where
  abbrev IsOutcome : Turned Own Stage → Type 0
  IsOutcome T = IsStep abridged (node_of new links) (turns (node_of own all) (arrival me own link reading draw) T) out × AreHeld abridged links

  abbrev IsDone : Came (Link Stage) Change → Type 0
  IsDone come = IsSettled (λ (l : Link Stage). l.number) changed me number come (record { own = own; links = all }) (record { own = new; links = links }) out

  waits : (stage : Link Stage) (T : Turned Own Stage) → turn_made changed own (came.Waits stage) ≡ turn_due abridged T → stage ≡ link
      → AreHeld abridged all → link_of number all ≡ Some link → IsDone (came.Waits stage) → IsOutcome T
  waits stage Waits e same h found s =
      let put_behind : Link Stage → List (Link Stage) = λ k. put_link k all in
      let left : links ≡ all = s.1 ∙ ap put_behind same ∙ found_put 0 number all link h.rising found in
      let state : Own → List (Link Stage) → Node Own Stage = λ o ls. node_of o ls in
      (record { out = s.2; state = ap (λ o. state o links) s.0 ∙ ap (state own) (left ∙ sym h.whole) }, rw left h)
  waits stage (Refuses why opened) e same h found s = absurd (cc)
  waits stage (Handles R) e same h found s = absurd (cc)

  refuses : (why : BytesFault) (opened : List SealEntry) (T : Turned Own Stage) → turn_made changed own (came.Refuses why opened) ≡ turn_due abridged T
      → link.number ≡ number → AreHeld abridged all → IsDone (came.Refuses why opened) → IsOutcome T
  refuses why opened Waits e n h s = absurd (cc)
  refuses why opened (Handles R) e n h s = absurd (cc)
  refuses why opened (Refuses due_why due_opened) e n h s =
      let first : why ≡ due_why = cc in
      let second : opened ≡ due_opened = cc in
      let R : Row Own Stage = refuses_bytes (arrival me own link reading draw) due_why due_opened in
      let row : Made (Link Stage) = refusing_bytes me number why opened in
      let k : as_row new row ≡ row_due abridged R = rw (s.0, n, first, second) refl in
      let P : ℕ → Type 0 = λ m. IsStep abridged (node_of new links) (carried_out (node_of own all) m false R) out in
      (subst P (sym n) (row_step abridged forgets own new number false all links row R out k h s.1), without_held abridged forgets number all links h s.1.links_behind)

  handles : (made : NodeRow (Link Stage) Change) (T : Turned Own Stage) → turn_made changed own (came.Handles made) ≡ turn_due abridged T
      → link.number ≡ number → AreHeld abridged all → IsDone (came.Handles made) → IsOutcome T
  handles made Waits e n h s = absurd (cc)
  handles made (Refuses why opened) e n h s = absurd (cc)
  handles made (Handles R) e n h s =
      let k : as_row (own_behind changed own made.change) made.row ≡ row_due abridged R = cc in
      let with : Own → Row Own Stage = λ o. as_row o made.row in
      let j : as_row new made.row ≡ row_due abridged R = ap with s.0 ∙ k in
      let P : ℕ → Type 0 = λ m. IsStep abridged (node_of new links) (carried_out (node_of own all) m true R) out in
      (subst P (sym n) (row_step abridged forgets own new number true all links made.row R out j h s.1), row_held abridged forgets new number true all links made.row R out j h s.1)

  pub settled : (T : Turned Own Stage) (come : Came (Link Stage) Change) → IsTurn abridged changed own link T come → link.number ≡ number
      → AreHeld abridged all → link_of number all ≡ Some link → IsDone come → IsOutcome T
  settled T (came.Waits stage) t n h found s = waits stage T t.made t.stays h found s
  settled T (came.Refuses why opened) t n h found s = refuses why opened T t.made n h s
  settled T (came.Handles made) t n h found s = handles made T t.made n h s

-- ---- a turn of the link of a number

found_number : {Stage : Type 0} (n : ℕ) (links : List (Link Stage)) (l : Link Stage) → link_of n links ≡ Some l → l.number ≡ n
found_number n [] l e = absurd (cc)
found_number {Stage} n (k ∷ links) l e = by_test (k.number == n) refl e (λ f. found_number n links l f)
  where
    by_test : (t : Bool) → (k.number == n) ≡ t → cond t (Some k) (link_of n links) ≡ Some l → (link_of n links ≡ Some l → l.number ≡ n) → l.number ≡ n
    by_test true test f later =
        let same : k ≡ l = cc in
        let number : Link Stage → ℕ = λ x. x.number in
        let is : k.number ≡ n = grind (arith, nat_tests) in sym (ap number same) ∙ is
    by_test false test f later = later f

-- what the rules have a turn of the link of this number come to: nothing where none lives
pub record IsRule {Own Stage : Type 0} (me : NodeName) (reading : ℕ) (draw : List ℕ) (node : Node Own Stage) (due : Link Stage → Turned Own Stage)
    (rule : Option (Link Stage) → Outcome (Node Own Stage)) : Type 0 where
  pub none : rule None ≡ idles node
  pub some : (link : Link Stage) → rule (Some link) ≡ turns node (arrival me node.own link reading draw) (due link)

module _ {Own Stage Change : Type 0} (abridged : Link Stage → Link Stage) (forgets : Forgets abridged) (changed : Own → Change → Own) (me : NodeName)
    (reading : ℕ) (draw : List ℕ) (own new : Own) (number : ℕ) (all links : List (Link Stage)) (due : Link Stage → Turned Own Stage)
    (rule : Option (Link Stage) → Outcome (Node Own Stage)) where
  abbrev IsTurning : Effects → Option (Link Stage) → Type 0
  IsTurning out o = Turning (λ (l : Link Stage). l.number) changed me number (λ (l : Link Stage) (come : Came (Link Stage) Change). IsTurn abridged changed own l (due l) come)
      (record { own = own; links = all }) (record { own = new; links = links }) out o

  turning : IsRule me reading draw (node_of own all) due rule → (o : Option (Link Stage)) → link_of number all ≡ o → AreHeld abridged all → (out : Effects)
      → IsTurning out o → IsStep abridged (node_of new links) (rule o) out × AreHeld abridged links
  turning r None found h out s =
      let state : Own → List (Link Stage) → Node Own Stage = λ o ls. node_of o ls in
      (rw r.none (record { out = s.2; state = ap (λ o. state o links) s.0 ∙ ap (state own) (s.1 ∙ sym h.whole) }), rw s.1 h)
  turning r (Some link) found h out s =
      let done = settled abridged forgets changed me reading draw own new number link all links out (due link) s.came s.come
      (found_number number all link found) h found s.settled in
      (rw (r.some link) done.0, done.1)

  pub turn_step : {E : Type 0} → IsRule me reading draw (node_of own all) due rule → (r : Result Effects E) → AreHeld abridged all
      → IfOk r (λ out. IsTurning out (link_of number all)) → IfOk r (IsStep abridged (node_of new links) (rule (link_of number all)))
  turn_step is (Ok out) h s = (turning is (link_of number all) refl h out s).0
  turn_step is (Err e) h s = tt

  pub turn_held : {E : Type 0} → IsRule me reading draw (node_of own all) due rule → (r : Result Effects E) → AreHeld abridged all
      → IfOk r (λ out. IsTurning out (link_of number all)) → OnErr r (links ≡ without_link number all) → AreHeld abridged links
  turn_held is (Ok out) h s l = (turning is (link_of number all) refl h out s).1
  turn_held is (Err e) h s l = without_held abridged forgets number all links h l

-- ---- a turn that came to what it is to come to, on the link of its number
