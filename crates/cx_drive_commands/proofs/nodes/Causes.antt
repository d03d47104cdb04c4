-- What failed is counted.
use Rattle.std.proofs.Common.{ℕ, ◌≡◌, ◌≤◌, arith, Bool, true, false, List, [], ◌∷◌, ◌++◌, Option, Some, None, refl, sym, subst}
use Rattle.std.specs.Prelude.{if◌then◌else◌}
use Rattle.std.proofs.lemmas.List.{append_assoc}
use Rattle.cx_drive.specs.Agendas.{Agenda, opening_agenda}
use Rattle.cx_drive.specs.Courses.{Ending, IsEnding, Through, Undrawn, Unlinked, Unsaved, Wanting, WantingIn, acts_from, agenda_after, ending_acts, node_after}
use Rattle.cx_drive.specs.declared.ends.Driven.{Driven}
use Rattle.cx_drive.specs.declared.ends.Ended.{Ended}
use Rattle.cx_drive.specs.declared.flow.Order.{Order}
use Rattle.cx_drive.specs.declared.peers.Peers.{Peers}
use Rattle.cx_journal.specs.declared.entries.Entry.{Entry}
use Rattle.cx_outside.specs.linking.Acts as link
use Rattle.cx_outside.specs.linking.Acts.{LinkAct}
use Rattle.cx_outside.specs.declared.regard.Regard.{Regard}
use Rattle.cx_loading.specs.Loading.{Rises}
use Rattle.cx_loading.specs.declared.ends.NodeEnd.{NodeEnd}
use Rattle.cx_loading.specs.declared.ends.NodeEnd.TheVariants as end
use Rattle.cx_rotate.specs.declared.states.KeptState.{KeptState}
use Rattle.cx_rules.specs.Inputs.{Input}
use Rattle.cx_rules.specs.Rows.{Outcome}
use Rattle.cx_outside.specs.site.Acts.{Act, Linked, Read, Rolled, Saved}
use Rattle.cx_outside.specs.site.Telling.{CountsRolls, CountsSaves, CountsWaits, Walk}
use Rattle.cx_drive_commands.specs.nodes.Outside.{Outside, Tells}
use Rattle.cx_drive_commands.specs.nodes.Runs.{HasCause, Runs, end_by}

-- a count that rose since, before which it didn't fall, rose
rises_since : (a b c : ℕ) → a ≤ b → Rises b c → Rises a c
rises_since a b c le up = (omega (arith, le, up.0), omega (arith, le, up.0, up.1))

-- ---- counts never fall

waits_fall_not : (m n : ℕ) (act : Act) → CountsWaits m act n → m ≤ n
waits_fall_not m n (Linked (link.Listened at true)) p = omega (arith, p)
waits_fall_not m n (Linked (link.Listened at false)) p = p.0
waits_fall_not m n (Linked link.Broke) p = p.0
waits_fall_not m n (Linked (link.Opened to number)) p = omega (arith, p)
waits_fall_not m n (Linked (link.Gave event bytes)) p = omega (arith, p)
waits_fall_not m n (Linked (link.Sent number bytes ok)) p = omega (arith, p)
waits_fall_not m n (Linked (link.Shut number)) p = omega (arith, p)
waits_fall_not m n (Linked (link.Regarded number regard)) p = omega (arith, p)
waits_fall_not m n (Read reading) p = omega (arith, p)
waits_fall_not m n (Rolled draw) p = omega (arith, p)
waits_fall_not m n (Saved state ok) p = omega (arith, p)

saves_fall_not : (m n : ℕ) (act : Act) → CountsSaves m act n → m ≤ n
saves_fall_not m n (Saved state true) p = omega (arith, p)
saves_fall_not m n (Saved state false) p = p.0
saves_fall_not m n (Linked act) p = omega (arith, p)
saves_fall_not m n (Read reading) p = omega (arith, p)
saves_fall_not m n (Rolled draw) p = omega (arith, p)

rolls_fall_not : (m n : ℕ) (act : Act) → CountsRolls m act n → m ≤ n
rolls_fall_not m n (Rolled (Some draw)) p = omega (arith, p)
rolls_fall_not m n (Rolled None) p = p.0
rolls_fall_not m n (Linked act) p = omega (arith, p)
rolls_fall_not m n (Read reading) p = omega (arith, p)
rolls_fall_not m n (Saved state ok) p = omega (arith, p)

-- ---- behind other acts

module _ (leads : ℕ → Act → ℕ → Type 0) (falls_not : (m n : ℕ) (act : Act) → leads m act n → m ≤ n) where
  -- where the last acts raise the count, all of them do
  behind : (m n : ℕ) (xs : List Act) (y : Act) (ys : List Act) → ((k : ℕ) → Walk leads k (y ∷ ys) n → Rises k n) → Walk leads m (xs ++ y ∷ ys) n → Rises m n
  behind m n [] y ys up w = up m w
  behind m n (x ∷ []) y ys up (between, first, w) = rises_since m between n (falls_not m between x first) (up between w)
  behind m n (x ∷ z ∷ xs) y ys up (between, first, w) = rises_since m between n (falls_not m between x first) (behind between n (z ∷ xs) y ys up w)

  pub last_rises : (m n : ℕ) (first xs : List Act) (y : Act) (ys : List Act) → ((k : ℕ) → Walk leads k (y ∷ ys) n → Rises k n)
      → Walk leads m (first ++ (xs ++ y ∷ ys)) n → Rises m n
  last_rises m n first xs y ys up w = behind m n (first ++ xs) y ys up (subst (λ acts. Walk leads m acts n) (sym (append_assoc first xs (y ∷ ys))) w)

-- a save that failed behind a roll and a reading
unsaved_rises : (k n : ℕ) (draw : Option (List ℕ)) (reading : ℕ) (state : KeptState) → Walk CountsSaves k (Rolled draw ∷ Read reading ∷ Saved state false ∷ []) n → Rises k n
unsaved_rises k n draw reading state (l, first, (m, second, up)) = rises_since k m n (omega (arith, first, second)) up

-- ---- the end of a run

module _ {L S : Type 0} (follows : L → L → List LinkAct → Type 0) (rule : S → Input → ℕ → List ℕ → Outcome S) (lost : S → Input → S) (rests : S → Bool) (regards : S → ℕ → Option Regard) (peers : Peers) where
  by_ending : (a b : Outside L) (first xs : List Act) (s : S) (agenda : Agenda) (e : Ending) (how : Ended) → IsEnding rule lost s agenda e how
      → Tells follows a b (first ++ (xs ++ ending_acts e)) → HasCause a b (end_by how)
  by_ending a b first xs s agenda Through how (is, over) told = subst (λ h. HasCause a b (end_by h)) (sym is) tt
  by_ending a b first xs s agenda Unlinked how (is, next) told =
      subst (λ h. HasCause a b (end_by h)) (sym is)
      (last_rises CountsWaits waits_fall_not a.link_faults b.link_faults first xs (Linked link.Broke) [] (λ k up. up) told.2.0)
  by_ending a b first xs s agenda (Undrawn input) how (is, next) told =
      subst (λ h. HasCause a b (end_by h)) (sym is)
      (last_rises CountsRolls rolls_fall_not a.dice_faults b.dice_faults first xs (Rolled None) [] (λ k up. up) told.4.1)
  by_ending a b first xs s agenda (Unsaved input reading draw state) how (is, next, due) told =
      subst (λ h. HasCause a b (end_by h)) (sym is)
      (last_rises CountsSaves saves_fall_not a.keeper_faults b.keeper_faults first xs (Rolled (Some draw)) (Read reading ∷ Saved state false ∷ [])
      (λ k w. unsaved_rises k b.keeper_faults (Some draw) reading state w) told.0.1)
  by_ending a b first xs s agenda Wanting how is told = subst (λ h. HasCause a b (end_by h)) (sym is) tt
  by_ending a b first xs s agenda (WantingIn input reading draw short) how (is, next) told = subst (λ h. HasCause a b (end_by h)) (sym is) tt

  by_short : (short : Bool) (how : Ended) (a b : Outside L) → HasCause a b (end_by how) → HasCause a b (if short then end.OutOfMemory else end_by how)
  by_short true how a b cause = tt
  by_short false how a b cause = cause

  pub runs_cause : (first : List Act) (a b : Outside L) (s : S) (orders : List Order) (events : ℕ) (ending : NodeEnd) (entries : List Entry)
      → Runs follows rule lost rests regards peers first a b s orders events ending entries → HasCause a b ending
  runs_cause first a b s orders events ending entries r =
      subst (λ e. HasCause a b e) (sym r.ended)
      (by_short r.driven.short r.driven.ended a b
      (by_ending a b first (acts_from rule lost regards peers s r.run.trace) (node_after rule lost peers s r.run.trace)
      (agenda_after rule lost rests peers s (opening_agenda orders events) r.run.trace) r.run.ending r.driven.ended r.run.ends r.run.acts))
