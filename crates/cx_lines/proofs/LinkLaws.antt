-- Lines on links: their words, their places, and that their values and their words determine them.
use Rattle.std.proofs.Common.{◌≡◌, ℕ, false, List, [], ◌∷◌, map, length, Option, Some, None, refl, arith}
use Rattle.std.specs.Prelude.{nat_le}
use Rattle.std.proofs.lemmas.Bool.Decides.{nat_tests}
use Rattle.cx_words.specs.declared.known.Known.{Known}
use Rattle.cx_words.specs.lines.Values.{Item, NumberOf, SideOf, BytesOf, SpellsItems}
use Rattle.cx_words.proofs.lines.ChoiceLemmas.{chosen-is}
use Rattle.cx_words.proofs.lines.ValueLemmas.{Values, place_of}
use Rattle.cx_lines.specs.declared.link_steps.LinkStep.{LinkStep}
use Rattle.cx_lines.specs.declared.link_steps.LinkStep.TheVariants.{Carry, Lose, Inject, Again, Cut}
use Rattle.cx_lines.specs.declared.link_steps.LinkForm.{LinkForm}
use Rattle.cx_lines.specs.declared.link_steps.LinkForm.TheVariants as form
use Rattle.cx_lines.specs.Found.{SpellsIn}
use Rattle.cx_lines.specs.LinkSteps.{link_form, link_form_of, link_items, link_places, link_steps, link_word}

pub link_form_of-is : (word : List ℕ) (f : LinkForm) → link_form_of word ≡ Some f → word ≡ link_word f
unfolding link_form_of
link_form_of-is word f some = chosen-is link_word (form.Carry ∷ form.Lose ∷ form.Inject ∷ form.Again ∷ form.Cut ∷ []) word f some

pub link_placed : (known : Known) (before : List (List ℕ)) (line : LinkStep) (ws : List (List ℕ)) → SpellsItems known before (link_items line) ws → link_places (link_form line) ws ≡ map place_of (link_items line)
link_placed k b (Carry l s None) [] p = absurd p
link_placed k b (Carry l s None) (w ∷ []) p = absurd p.1
link_placed k b (Carry l s None) (w ∷ v ∷ []) p = refl
link_placed k b (Carry l s None) (w ∷ v ∷ u ∷ ws) p = absurd p.1.1
link_placed k b (Carry l s (Some n)) [] p = absurd p
link_placed k b (Carry l s (Some n)) (w ∷ []) p = absurd p.1
link_placed k b (Carry l s (Some n)) (w ∷ v ∷ []) p = absurd p.1.1
link_placed k b (Carry l s (Some n)) (w ∷ v ∷ u ∷ []) p = refl
link_placed k b (Carry l s (Some n)) (w ∷ v ∷ u ∷ t ∷ ws) p = absurd p.1.1.1
link_placed k b (Lose l s) ws p = refl
link_placed k b (Inject l s bs) ws p = refl
link_placed k b (Again l s n m) ws p = refl
link_placed k b (Cut l) ws p = refl

-- ---- a line is told by its values

abbrev pub link_from : LinkForm → List Item → Option LinkStep
link_from form.Carry (NumberOf l ∷ SideOf s ∷ []) = Some (Carry l s None)
link_from form.Carry (NumberOf l ∷ SideOf s ∷ NumberOf n ∷ []) = Some (Carry l s (Some n))
link_from form.Lose (NumberOf l ∷ SideOf s ∷ []) = Some (Lose l s)
link_from form.Inject (NumberOf l ∷ SideOf s ∷ BytesOf bs ∷ []) = Some (Inject l s bs)
link_from form.Again (NumberOf l ∷ SideOf s ∷ NumberOf n ∷ NumberOf m ∷ []) = Some (Again l s n m)
link_from form.Cut (NumberOf l ∷ []) = Some (Cut l)
link_from _ _ = None

pub link_back : (line : LinkStep) → link_from (link_form line) (link_items line) ≡ Some line
link_back (Carry l s None) = refl
link_back (Carry l s (Some n)) = refl
link_back (Lose l s) = refl
link_back (Inject l s bs) = refl
link_back (Again l s n m) = refl
link_back (Cut l) = refl

-- ---- values at the places of a form are those of a line

pub link_found : (known : Known) (before : List (List ℕ)) (f : LinkForm) (ws : List (List ℕ)) → Values known before (link_places f ws) ws → (line : LinkStep) × SpellsIn link_steps known before f ws line
link_found k b form.Carry [] v = absurd v
link_found k b form.Carry (w ∷ []) v = absurd v.1
link_found k b form.Carry (w ∷ u ∷ []) v = (Carry v.0.0 v.1.0.0 None, (refl, (v.0.1, (v.1.0.1, tt))))
link_found k b form.Carry (w ∷ u ∷ t ∷ []) v =
    (Carry v.0.0 v.1.0.0 (Some v.1.1.0.0), (refl, (v.0.1, (v.1.0.1, (v.1.1.0.1, tt)))))
link_found k b form.Carry (w ∷ u ∷ t ∷ s ∷ ws) v =
    let many : nat_le (length (w ∷ u ∷ t ∷ s ∷ ws)) 2 ≡ false = grind (arith, nat_tests) in
    absurd ((rw many at v).1.1.1)
link_found k b form.Lose [] v = absurd v
link_found k b form.Lose (w ∷ []) v = absurd v.1
link_found k b form.Lose (w ∷ u ∷ []) v = (Lose v.0.0 v.1.0.0, (refl, (v.0.1, (v.1.0.1, tt))))
link_found k b form.Lose (w ∷ u ∷ t ∷ ws) v = absurd v.1.1
link_found k b form.Inject [] v = absurd v
link_found k b form.Inject (w ∷ []) v = absurd v.1
link_found k b form.Inject (w ∷ u ∷ []) v = absurd v.1.1
link_found k b form.Inject (w ∷ u ∷ t ∷ []) v =
    (Inject v.0.0 v.1.0.0 v.1.1.0.0, (refl, (v.0.1, (v.1.0.1, (v.1.1.0.1, tt)))))
link_found k b form.Inject (w ∷ u ∷ t ∷ s ∷ ws) v = absurd v.1.1.1
link_found k b form.Again [] v = absurd v
link_found k b form.Again (w ∷ []) v = absurd v.1
link_found k b form.Again (w ∷ u ∷ []) v = absurd v.1.1
link_found k b form.Again (w ∷ u ∷ t ∷ []) v = absurd v.1.1.1
link_found k b form.Again (w ∷ u ∷ t ∷ s ∷ []) v =
    (Again v.0.0 v.1.0.0 v.1.1.0.0 v.1.1.1.0.0, (refl, (v.0.1, (v.1.0.1, (v.1.1.0.1, (v.1.1.1.0.1, tt))))))
link_found k b form.Again (w ∷ u ∷ t ∷ s ∷ r ∷ ws) v = absurd v.1.1.1.1
link_found k b form.Cut [] v = absurd v
link_found k b form.Cut (w ∷ []) v = (Cut v.0.0, (refl, (v.0.1, tt)))
link_found k b form.Cut (w ∷ u ∷ ws) v = absurd v.1
