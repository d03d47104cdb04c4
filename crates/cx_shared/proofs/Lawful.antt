-- The laws of what threads know.
use Rattle.std.proofs.Common.{◌≡◌, ◌⊎◌, ◌≤◌, List, [], ◌∷◌, length, refl, ap, sym, ◌∙◌, inl, inr, ⊎_elim, arith, length-append}
use mathlib.Core.List.{IsPrefix}
use Rattle.cx_shared.specs.Views.{shown}
use Rattle.cx_shared.specs.Lawful.{KnowsOneList, KnowsItsLook}
use Rattle.cx_shared.proofs.Prefixes.{prefix_whole}

-- of two fronts of one list one begins with the other
one_of_two : {A : Type 0} (xs ys zs : List A) → IsPrefix xs zs → IsPrefix ys zs → IsPrefix xs ys ⊎ IsPrefix ys xs
one_of_two [] ys zs p q = inl (ys, refl)
one_of_two (x ∷ xs) [] zs p q = inr (x ∷ xs, refl)
one_of_two (x ∷ xs) (y ∷ ys) [] p q = absurd (cc (p.1))
one_of_two (x ∷ xs) (y ∷ ys) (z ∷ zs) p q =
    ⊎_elim (λ (t : IsPrefix xs ys). inl (t.0, cc (t.1, p.1, q.1))) (λ (t : IsPrefix ys xs). inr (t.0, cc (t.1, p.1, q.1))) (one_of_two xs ys zs (p.0, cc (p.1)) (q.0, cc (q.1)))

shorter : {A : Type 0} (xs ys : List A) → IsPrefix xs ys → length xs ≤ length ys
shorter xs ys p = omega (arith, length-append xs p.0, ap length p.1)

pub knows_one_list : KnowsOneList
knows_one_list look known seat other views others rule here there = one_of_two views others rule.0 (rule.2 seat views here) (rule.2 other others there)

pub knows_its_look : KnowsItsLook
knows_its_look look known seat views rule here =
    let front = rule.2 seat views here in (
      omega (arith, shorter views rule.0 front, rule.1.1),
      λ (same : look.count ≡ length views). rule.1.0 ∙ ap shown (sym (prefix_whole views rule.0 front (omega (arith, rule.1.1, same)))),
    )
