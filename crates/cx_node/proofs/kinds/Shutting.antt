-- Links that stand in the order of their numbers are picked out by the numbers of those that pass a test.
use Rattle.std.proofs.Common.{◌≡◌, ◌∙◌, ℕ, ◌==◌, ◌+◌, ◌<◌, Bool, true, false, cond, List, [], ◌∷◌, get_or, length, map, take, refl, ap, arith}
use Rattle.std.specs.Prelude.{not, filter, ◌||◌}
use Rattle.std.specs.List.{list_any}
use Rattle.std.proofs.lemmas.Bool.Decides.{nat_tests}
use Rattle.std.proofs.lemmas.List.Folds.{list_any_more}
use Rattle.cx_rules_session.specs.cx_rules.specs.Links.{Link}
use Rattle.cx_node.specs.steps.Stages.{AreRising}

either_way : (m n : ℕ) → (m == n) ≡ (n == m)
either_way m n = grind (arith, nat_tests)

module _ {Stage : Type 0} where
  abbrev pub is_named_in : List ℕ → Link Stage → Bool
  is_named_in numbers link = list_any (λ n. n == link.number) numbers

  -- those that no number names
  abbrev pub left_by : List ℕ → List (Link Stage) → List (Link Stage)
  left_by numbers links = filter (λ l. not (is_named_in numbers l)) links

  -- no number names any
  pub none_named : (links : List (Link Stage)) → left_by [] links ≡ links
  none_named [] = refl
  none_named (l ∷ links) = let first : List (Link Stage) → List (Link Stage) = λ ls. l ∷ ls in ap first (none_named links)

  -- one more number
  pub left_more : (numbers : List ℕ) (i : ℕ) → i < length numbers → (links : List (Link Stage))
      → filter (λ (l : Link Stage). not (l.number == get_or numbers i 0)) (left_by (take i numbers) links) ≡ left_by (take (i + 1) numbers) links
  left_more numbers i within [] = refl
  left_more numbers i within (l ∷ links) =
      let n : ℕ = get_or numbers i 0 in
      let both : Bool → Bool = λ u. is_named_in (take i numbers) l || u in
      let named : is_named_in (take (i + 1) numbers) l ≡ (is_named_in (take i numbers) l || (l.number == n)) =
      list_any_more (λ (k : ℕ). k == l.number) numbers i 0 within ∙ ap both (either_way n l.number) in
      by_test (is_named_in (take i numbers) l) (l.number == n) refl (is_named_in (take (i + 1) numbers) l) named (left_more numbers i within links)
    where
      by_test : (t u : Bool) → (l.number == get_or numbers i 0) ≡ u → (both : Bool) → both ≡ (t || u)
          → filter (λ (k : Link Stage). not (k.number == get_or numbers i 0)) (left_by (take i numbers) links) ≡ left_by (take (i + 1) numbers) links
          → filter (λ (k : Link Stage). not (k.number == get_or numbers i 0)) (cond (not t) (l ∷ left_by (take i numbers) links) (left_by (take i numbers) links))
          ≡ cond (not both) (l ∷ left_by (take (i + 1) numbers) links) (left_by (take (i + 1) numbers) links)
      by_test true u e both b is = rw b is
      by_test false true e both b is = rw (b, e) is
      by_test false false e both b is = let first : List (Link Stage) → List (Link Stage) = λ ls. l ∷ ls in rw (b, e) (ap first is)

  -- a number below those of all links names none of them
  past : (n low : ℕ) (numbers : List ℕ) (links : List (Link Stage)) → n < low → AreRising low links → left_by (n ∷ numbers) links ≡ left_by numbers links
  past n low numbers [] lt h = refl
  past n low numbers (l ∷ links) lt h =
      let other : (n == l.number) ≡ false = grind (arith, nat_tests, h.0, lt) in
      let rest = past n (l.number + 1) numbers links (omega (arith, h.0, lt)) h.1 in
      by_test (n == l.number) (is_named_in numbers l) other rest
    where
      by_test : (t u : Bool) → t ≡ false → left_by (n ∷ numbers) links ≡ left_by numbers links
          → cond (not (t || u)) (l ∷ left_by (n ∷ numbers) links) (left_by (n ∷ numbers) links) ≡ cond (not u) (l ∷ left_by numbers links) (left_by numbers links)
      by_test true u e is = absurd (cc)
      by_test false true e is = is
      by_test false false e is = let first : List (Link Stage) → List (Link Stage) = λ ls. l ∷ ls in ap first is

  module _ (p : Link Stage → Bool) where
    abbrev pub picked : List (Link Stage) → List ℕ
    picked links = map (λ l. l.number) (filter p links)

    -- no number of these is below all of them
    none_below : (n low : ℕ) (links : List (Link Stage)) → n < low → AreRising low links → list_any (λ k. k == n) (picked links) ≡ false
    none_below n low [] lt h = refl
    none_below n low (l ∷ links) lt h =
        let other : (l.number == n) ≡ false = grind (arith, nat_tests, h.0, lt) in
        by_test (p l) (l.number == n) other (none_below n (l.number + 1) links (omega (arith, h.0, lt)) h.1)
      where
        by_test : (t u : Bool) → (l.number == n) ≡ false → list_any (λ k. k == n) (picked links) ≡ false
            → list_any (λ k. k == n) (map (λ (k : Link Stage). k.number) (cond t (l ∷ filter p links) (filter p links))) ≡ false
        by_test true u e is = rw (e, is) refl
        by_test false u e is = is

    -- those that are left by the numbers of those that pass are those that don't
    pub left_picked : (low : ℕ) (links : List (Link Stage)) → AreRising low links → left_by (picked links) links ≡ filter (λ l. not (p l)) links
    left_picked low [] h = refl
    left_picked low (l ∷ links) h = by_test (p l) refl (left_picked (l.number + 1) links h.1)
      where
        by_test : (t : Bool) → p l ≡ t → left_by (picked links) links ≡ filter (λ (k : Link Stage). not (p k)) links
            → left_by (map (λ (k : Link Stage). k.number) (cond t (l ∷ filter p links) (filter p links))) (l ∷ links)
            ≡ cond (not t) (l ∷ filter (λ (k : Link Stage). not (p k)) links) (filter (λ (k : Link Stage). not (p k)) links)
        by_test true e is =
            let same : (l.number == l.number) ≡ true = grind (arith, nat_tests) in
            let rest = past l.number (l.number + 1) (picked links) links (omega arith) h.1 ∙ is in
            rw same rest
        by_test false e is =
            let none : is_named_in (picked links) l ≡ false = none_below l.number (l.number + 1) links (omega arith) h.1 in
            let first : List (Link Stage) → List (Link Stage) = λ ls. l ∷ ls in
            rw none (ap first is)
