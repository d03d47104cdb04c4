-- Lines on clocks, nodes and saves: their words, their places, and that their values and their words determine them.
use Rattle.std.proofs.Common.{◌≡◌, ℕ, false, List, [], ◌∷◌, map, length, Option, Some, None, refl, arith}
use Rattle.std.specs.Prelude.{nat_le}
use Rattle.std.proofs.lemmas.Bool.Decides.{nat_tests}
use Rattle.cx_words.specs.declared.known.Known.{Known}
use Rattle.cx_words.specs.lines.Values.{Item, ReadingOf, NumberOf, DaemonOf, NodeOf, StateOf, SpellsItems}
use Rattle.cx_words.proofs.lines.ChoiceLemmas.{chosen-is}
use Rattle.cx_words.proofs.lines.ValueLemmas.{Values, place_of}
use Rattle.cx_lines.specs.declared.node_steps.NodeStep.{NodeStep}
use Rattle.cx_lines.specs.declared.node_steps.NodeStep.TheVariants.{Clock, ClockOf, DropSession, Tick, Restart, FailSave, Settle}
use Rattle.cx_lines.specs.declared.node_steps.NodeForm.{NodeForm}
use Rattle.cx_lines.specs.declared.node_steps.NodeForm.TheVariants as form
use Rattle.cx_lines.specs.Found.{SpellsIn}
use Rattle.cx_lines.specs.NodeSteps.{node_form, node_form_of, node_items, node_places, node_step_word, node_steps}

pub node_form_of-is : (word : List ℕ) (f : NodeForm) → node_form_of word ≡ Some f → word ≡ node_step_word f
unfolding node_form_of
node_form_of-is word f some =
    chosen-is node_step_word (form.Clock ∷ form.DropSession ∷ form.Tick ∷ form.Restart ∷ form.FailSave ∷ form.Settle ∷ []) word f some

pub node_placed : (known : Known) (before : List (List ℕ)) (line : NodeStep) (ws : List (List ℕ)) → SpellsItems known before (node_items line) ws → node_places (node_form line) ws ≡ map place_of (node_items line)
node_placed k b (Clock r) [] p = absurd p
node_placed k b (Clock r) (w ∷ []) p = refl
node_placed k b (Clock r) (w ∷ v ∷ ws) p = absurd p.1
node_placed k b (ClockOf n r) [] p = absurd p
node_placed k b (ClockOf n r) (w ∷ []) p = absurd p.1
node_placed k b (ClockOf n r) (w ∷ v ∷ []) p = refl
node_placed k b (ClockOf n r) (w ∷ v ∷ u ∷ ws) p = absurd p.1.1
node_placed k b (DropSession d s) ws p = refl
node_placed k b (Tick n) ws p = refl
node_placed k b (Restart n) ws p = refl
node_placed k b (FailSave s) ws p = refl
node_placed k b Settle ws p = refl

-- ---- a line is told by its values

abbrev pub node_from : NodeForm → List Item → Option NodeStep
node_from form.Clock (ReadingOf r ∷ []) = Some (Clock r)
node_from form.Clock (NodeOf n ∷ ReadingOf r ∷ []) = Some (ClockOf n r)
node_from form.DropSession (DaemonOf d ∷ NumberOf s ∷ []) = Some (DropSession d s)
node_from form.Tick (NodeOf n ∷ []) = Some (Tick n)
node_from form.Restart (NodeOf n ∷ []) = Some (Restart n)
node_from form.FailSave (StateOf s ∷ []) = Some (FailSave s)
node_from form.Settle [] = Some Settle
node_from _ _ = None

pub node_back : (line : NodeStep) → node_from (node_form line) (node_items line) ≡ Some line
node_back (Clock r) = refl
node_back (ClockOf n r) = refl
node_back (DropSession d s) = refl
node_back (Tick n) = refl
node_back (Restart n) = refl
node_back (FailSave s) = refl
node_back Settle = refl

-- ---- values at the places of a form are those of a line

pub node_found : (known : Known) (before : List (List ℕ)) (f : NodeForm) (ws : List (List ℕ)) → Values known before (node_places f ws) ws → (line : NodeStep) × SpellsIn node_steps known before f ws line
node_found k b form.Clock [] v = absurd v
node_found k b form.Clock (w ∷ []) v = (Clock v.0.0, (refl, (v.0.1, tt)))
node_found k b form.Clock (w ∷ u ∷ []) v = (ClockOf v.0.0 v.1.0.0, (refl, (v.0.1, (v.1.0.1, tt))))
node_found k b form.Clock (w ∷ u ∷ t ∷ ws) v =
    let many : nat_le (length (w ∷ u ∷ t ∷ ws)) 1 ≡ false = grind (arith, nat_tests) in
    absurd ((rw many at v).1.1)
node_found k b form.DropSession [] v = absurd v
node_found k b form.DropSession (w ∷ []) v = absurd v.1
node_found k b form.DropSession (w ∷ u ∷ []) v = (DropSession v.0.0 v.1.0.0, (refl, (v.0.1, (v.1.0.1, tt))))
node_found k b form.DropSession (w ∷ u ∷ t ∷ ws) v = absurd v.1.1
node_found k b form.Tick [] v = absurd v
node_found k b form.Tick (w ∷ []) v = (Tick v.0.0, (refl, (v.0.1, tt)))
node_found k b form.Tick (w ∷ u ∷ ws) v = absurd v.1
node_found k b form.Restart [] v = absurd v
node_found k b form.Restart (w ∷ []) v = (Restart v.0.0, (refl, (v.0.1, tt)))
node_found k b form.Restart (w ∷ u ∷ ws) v = absurd v.1
node_found k b form.FailSave [] v = absurd v
node_found k b form.FailSave (w ∷ []) v = (FailSave v.0.0, (refl, (v.0.1, tt)))
node_found k b form.FailSave (w ∷ u ∷ ws) v = absurd v.1
node_found k b form.Settle [] v = (Settle, (refl, tt))
node_found k b form.Settle (w ∷ ws) v = absurd v
