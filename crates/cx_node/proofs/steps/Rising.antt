-- The links of a table stand in the order of their numbers: one that stands there is put where it stands.
use Rattle.std.proofs.Common.{◌≡◌, ℕ, ◌==◌, ◌+◌, ◌<◌, ◌≤◌, Bool, true, false, cond, List, [], ◌∷◌, ◌++◌, Some, refl, ap, subst, arith}
use Rattle.std.specs.Prelude.{not, nat_lt, filter}
use Rattle.std.proofs.lemmas.Bool.Decides.{nat_tests}
use Rattle.cx_node.specs.cx_rules.specs.Links.{Link, link_of, put_link, without_link}
use Rattle.cx_node.specs.steps.Stages.{AreRising}

module _ {Stage : Type 0} where
  lower : (a b : ℕ) (links : List (Link Stage)) → a ≤ b → AreRising b links → AreRising a links
  lower a b [] le h = tt
  lower a b (l ∷ links) le h = (omega (arith, h.0), h.1)

  pub filter_rising : (p : Link Stage → Bool) (low : ℕ) (links : List (Link Stage)) → AreRising low links → AreRising low (filter p links)
  filter_rising p low [] h = tt
  filter_rising p low (l ∷ links) h = by_test (p l) (filter_rising p (l.number + 1) links h.1)
    where
      by_test : (t : Bool) → AreRising (l.number + 1) (filter p links) → AreRising low (cond t (l ∷ filter p links) (filter p links))
      by_test true rest = (h.0, rest)
      by_test false rest = lower low (l.number + 1) (filter p links) (omega (arith, h.0)) rest

  pub without_rising : (low n : ℕ) (links : List (Link Stage)) → AreRising low links → AreRising low (without_link n links)
  without_rising low n links h = filter_rising (λ l. not (l.number == n)) low links h

  above_rising : (low n : ℕ) (links : List (Link Stage)) → AreRising low links → AreRising (n + 1) (filter (λ l. nat_lt n l.number) links)
  above_rising low n [] h = tt
  above_rising low n (l ∷ links) h =
      by_test (nat_lt n l.number) refl (filter_rising (λ k. nat_lt n k.number) (l.number + 1) links h.1) (above_rising (l.number + 1) n links h.1)
    where
      by_test : (t : Bool) → nat_lt n l.number ≡ t → AreRising (l.number + 1) (filter (λ k. nat_lt n k.number) links)
          → AreRising (n + 1) (filter (λ k. nat_lt n k.number) links)
          → AreRising (n + 1) (cond t (l ∷ filter (λ k. nat_lt n k.number) links) (filter (λ k. nat_lt n k.number) links))
      by_test true e here later = let above : n < l.number = grind (arith, nat_tests) in (omega (arith, above), here)
      by_test false e here later = later

  below_rising : (low n : ℕ) (links behind : List (Link Stage)) → AreRising low links → low ≤ n → AreRising n behind
      → AreRising low (filter (λ l. nat_lt l.number n) links ++ behind)
  below_rising low n [] behind h le b = lower low n behind le b
  below_rising low n (l ∷ links) behind h le b =
      by_test (nat_lt l.number n) refl (λ up. below_rising (l.number + 1) n links behind h.1 up b)
      (below_rising low n links behind (lower low (l.number + 1) links (omega (arith, h.0)) h.1) le b)
    where
      by_test : (t : Bool) → nat_lt l.number n ≡ t → (l.number + 1 ≤ n → AreRising (l.number + 1) (filter (λ k. nat_lt k.number n) links ++ behind))
          → AreRising low (filter (λ k. nat_lt k.number n) links ++ behind)
          → AreRising low (cond t (l ∷ filter (λ k. nat_lt k.number n) links) (filter (λ k. nat_lt k.number n) links) ++ behind)
      by_test true e here later = let below : l.number < n = grind (arith, nat_tests) in (h.0, here (omega (arith, below)))
      by_test false e here later = later

  pub put_rising : (link : Link Stage) (links : List (Link Stage)) → AreRising 0 links → AreRising 0 (put_link link links)
  put_rising link links h =
      below_rising 0 link.number links (link ∷ filter (λ l. nat_lt link.number l.number) links) h (omega arith) (omega arith, above_rising 0 link.number links h)

  -- ---- a link that is there

  found_from : (low n : ℕ) (links : List (Link Stage)) (l : Link Stage) → AreRising low links → link_of n links ≡ Some l → low ≤ l.number
  found_from low n [] l h e = absurd (cc)
  found_from low n (k ∷ links) l h e = by_test (k.number == n) e (λ f. found_from (k.number + 1) n links l h.1 f)
    where
      by_test : (t : Bool) → cond t (Some k) (link_of n links) ≡ Some l → (link_of n links ≡ Some l → k.number + 1 ≤ l.number) → low ≤ l.number
      by_test true e later = let same : k ≡ l = cc in let number : k.number ≡ l.number = ap (λ (x : Link Stage). x.number) same in omega (arith, h.0, number)
      by_test false e later = omega (arith, h.0, later e)

  none_below : (m low : ℕ) (links : List (Link Stage)) → m < low → AreRising low links → filter (λ l. nat_lt l.number m) links ≡ []
  none_below m low [] lt h = refl
  none_below m low (l ∷ links) lt h =
      let first : nat_lt l.number m ≡ false = (let up : m < l.number = omega (arith, h.0) in grind (arith, nat_tests)) in
      rw first (none_below m (l.number + 1) links (omega (arith, h.0)) h.1)

  all_above : (m low : ℕ) (links : List (Link Stage)) → m < low → AreRising low links → filter (λ l. nat_lt m l.number) links ≡ links
  all_above m low [] lt h = refl
  all_above m low (l ∷ links) lt h =
      let first : nat_lt m l.number ≡ true = (let up : m < l.number = omega (arith, h.0) in grind (arith, nat_tests)) in
      rw first (ap (λ ls. l ∷ ls) (all_above m (l.number + 1) links (omega (arith, h.0)) h.1))

  -- a link put on itself
  put_first : (k : Link Stage) (links : List (Link Stage)) → AreRising (k.number + 1) links → put_link k (k ∷ links) ≡ k ∷ links
  put_first k links h =
      let self : nat_lt k.number k.number ≡ false = grind (arith, nat_tests) in
      let below : filter (λ l. nat_lt l.number k.number) links ≡ [] = none_below k.number (k.number + 1) links (omega arith) h in
      let above : filter (λ l. nat_lt k.number l.number) links ≡ links = all_above k.number (k.number + 1) links (omega arith) h in
      rw (self, below, above) refl

  put_later : (k l : Link Stage) (links : List (Link Stage)) → k.number + 1 ≤ l.number → put_link l links ≡ links → put_link l (k ∷ links) ≡ k ∷ links
  put_later k l links up same =
      let below : nat_lt k.number l.number ≡ true = grind (arith, nat_tests) in
      let above : nat_lt l.number k.number ≡ false = grind (arith, nat_tests) in
      rw (below, above) (ap (λ ls. k ∷ ls) same)

  pub found_put : (low n : ℕ) (links : List (Link Stage)) (l : Link Stage) → AreRising low links → link_of n links ≡ Some l → put_link l links ≡ links
  found_put low n [] l h e = absurd (cc)
  found_put low n (k ∷ links) l h e =
      by_test (k.number == n) e (λ f. found_put (k.number + 1) n links l h.1 f) (λ f. found_from (k.number + 1) n links l h.1 f)
    where
      by_test : (t : Bool) → cond t (Some k) (link_of n links) ≡ Some l → (link_of n links ≡ Some l → put_link l links ≡ links)
          → (link_of n links ≡ Some l → k.number + 1 ≤ l.number) → put_link l (k ∷ links) ≡ k ∷ links
      by_test true e later up = let same : k ≡ l = cc in let P : Link Stage → Type 0 = λ x. put_link x (k ∷ links) ≡ k ∷ links in subst P same (put_first k links h.1)
      by_test false e later up = put_later k l links (up e) (later e)
