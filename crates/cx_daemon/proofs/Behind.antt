-- But for the link that was turned, the links behind its turn are those before it.
use Rattle.std.proofs.Common.{◌≡◌, ℕ, ◌==◌, ◌+◌, ◌<◌, ◌≤◌, Bool, true, false, cond, List, [], ◌∷◌, ◌++◌, Option, Some, None, refl, ap, subst, arith}
use Rattle.std.specs.Prelude.{not, nat_lt, filter, IfSome}
use Rattle.std.proofs.lemmas.Bool.Decides.{nat_tests}
use Rattle.cx_node.specs.Tables.{behind}
use Rattle.cx_node.specs.cx_rules.specs.Links.{Link, put_link, without_link}
use Rattle.cx_node.specs.steps.Stages.{AreRising}

module _ {Stage : Type 0} where
  none_below : (n low : ℕ) (links : List (Link Stage)) → n ≤ low → AreRising low links → filter (λ (l : Link Stage). nat_lt l.number n) links ≡ []
  none_below n low [] le h = refl
  none_below n low (l ∷ links) le h =
      let first : nat_lt l.number n ≡ false = (let up : n ≤ l.number = omega (arith, h.0) in grind (arith, nat_tests)) in
      rw first (none_below n (l.number + 1) links (omega (arith, h.0)) h.1)

  all_above : (n low : ℕ) (links : List (Link Stage)) → n < low → AreRising low links → filter (λ (l : Link Stage). nat_lt n l.number) links ≡ links
  all_above n low [] lt h = refl
  all_above n low (l ∷ links) lt h =
      let first : nat_lt n l.number ≡ true = (let up : n < l.number = omega (arith, h.0) in grind (arith, nat_tests)) in
      rw first (ap (λ ls. l ∷ ls) (all_above n (l.number + 1) links (omega (arith, h.0)) h.1))

  left_put : (link : Link Stage) (low : ℕ) (links : List (Link Stage)) → AreRising low links → without_link link.number (put_link link links) ≡ without_link link.number links
  left_put link low [] h = let same : (link.number == link.number) ≡ true = grind (arith, nat_tests) in rw same refl
  left_put link low (l ∷ links) h =
      by_test (nat_lt l.number link.number) (nat_lt link.number l.number) refl refl (left_put link (l.number + 1) links h.1)
    where
      n : ℕ
      n = link.number

      by_test : (t u : Bool) → nat_lt l.number link.number ≡ t → nat_lt link.number l.number ≡ u
          → without_link link.number (put_link link links) ≡ without_link link.number links
          → without_link link.number (cond t (l ∷ filter (λ (k : Link Stage). nat_lt k.number link.number) links) (filter (λ (k : Link Stage). nat_lt k.number link.number) links)
          ++ link ∷ cond u (l ∷ filter (λ (k : Link Stage). nat_lt link.number k.number) links) (filter (λ (k : Link Stage). nat_lt link.number k.number) links))
          ≡ cond (not (l.number == link.number)) (l ∷ without_link link.number links) (without_link link.number links)
      by_test true true e f is = absurd (grind (arith, nat_tests, e, f))
      by_test true false e f is =
          let other : (l.number == link.number) ≡ false = grind (arith, nat_tests, e) in
          let first : List (Link Stage) → List (Link Stage) = λ ls. l ∷ ls in
          rw other (ap first is)
      by_test false true e f is =
          let other : (l.number == link.number) ≡ false = grind (arith, nat_tests, f) in
          let same : (link.number == link.number) ≡ true = grind (arith, nat_tests) in
          let up : link.number < l.number = grind (arith, nat_tests, f) in
          let none = none_below link.number (l.number + 1) links (omega (arith, up)) h.1 in
          let all = all_above link.number (l.number + 1) links (omega (arith, up)) h.1 in
          rw (none, all, same, other) refl
      by_test false false e f is =
          let here : l.number ≡ link.number = grind (arith, nat_tests, e, f) in
          let equal : (l.number == link.number) ≡ true = grind (arith, nat_tests, here) in
          let same : (link.number == link.number) ≡ true = grind (arith, nat_tests) in
          let none = none_below link.number (l.number + 1) links (omega (arith, here)) h.1 in
          let all = all_above link.number (l.number + 1) links (omega (arith, here)) h.1 in
          rw (none, all, same, equal) refl

  pub left_twice : (n : ℕ) (links : List (Link Stage)) → without_link n (without_link n links) ≡ without_link n links
  left_twice n [] = refl
  left_twice n (l ∷ links) = by_test (l.number == n) refl (left_twice n links)
    where
      by_test : (t : Bool) → (l.number == n) ≡ t → without_link n (without_link n links) ≡ without_link n links
          → without_link n (cond (not t) (l ∷ without_link n links) (without_link n links)) ≡ cond (not t) (l ∷ without_link n links) (without_link n links)
      by_test true e is = is
      by_test false e is = let first : List (Link Stage) → List (Link Stage) = λ ls. l ∷ ls in rw e (ap first is)

  -- whatever stands in its place
  pub left_behind : (n : ℕ) (o : Option (Link Stage)) (links : List (Link Stage)) → AreRising 0 links → IfSome o (λ l. l.number ≡ n)
      → without_link n (behind (λ (l : Link Stage). l.number) n o links) ≡ without_link n links
  left_behind n None links h is = left_twice n links
  left_behind n (Some link) links h is =
      subst (λ (k : ℕ). without_link k (put_link link links) ≡ without_link k links) is (left_put link 0 links h)
