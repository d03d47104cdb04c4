-- Links that stand in the order of their numbers: what is found, left and put there.
use Rattle.std.proofs.Common.{ℕ, ◌≡◌, ◌==◌, ◌<◌, Bool, true, false, not, nat_lt, List, [], ◌∷◌, ◌++◌, find, filter, cond, Option, Some, None, IfSome, arith, refl, ap, ◌∙◌}
use Rattle.std.specs.Prelude.{option_to_list}
use Rattle.std.proofs.lemmas.Bool.Decides.{nat_tests}
use Rattle.std.proofs.lemmas.List.{append-nil}
use Rattle.std.proofs.lemmas.List.Elements.{filter-append}
use Rattle.cx_node.specs.Tables.{with_number, put, without}

module _ {L : Type 0} (f : L → ℕ) where
  abbrev pub Below : ℕ → List L → Type 0
  Below n [] = Unit {0}
  Below n (l ∷ ls) = (f l < n) × Below n ls

  abbrev pub Above : ℕ → List L → Type 0
  Above n [] = Unit {0}
  Above n (l ∷ ls) = (n < f l) × Above n ls

  finds_none : (n : ℕ) (ls : List L) → Above n ls → find (λ l. f l == n) ls ≡ None
  finds_none n [] above = refl
  finds_none n (l ∷ ls) above =
      let other : (f l == n) ≡ false = grind (arith, nat_tests) in
      rw other (finds_none n ls above.1)

  finds_behind : (n : ℕ) (ls rest : List L) → Below n ls → find (λ l. f l == n) (ls ++ rest) ≡ find (λ l. f l == n) rest
  finds_behind n [] rest below = refl
  finds_behind n (l ∷ ls) rest below =
      let other : (f l == n) ≡ false = grind (arith, nat_tests) in
      rw other (finds_behind n ls rest below.1)

  lower_below : (n : ℕ) (ls : List L) → Below n ls → filter (λ l. nat_lt (f l) n) ls ≡ ls
  lower_below n [] below = refl
  lower_below n (l ∷ ls) below =
      let lower : nat_lt (f l) n ≡ true = grind (arith, nat_tests) in
      rw lower (ap (λ rest. l ∷ rest) (lower_below n ls below.1))

  lower_above : (n : ℕ) (ls : List L) → Above n ls → filter (λ l. nat_lt (f l) n) ls ≡ []
  lower_above n [] above = refl
  lower_above n (l ∷ ls) above =
      let higher : nat_lt (f l) n ≡ false = grind (arith, nat_tests) in
      rw higher (lower_above n ls above.1)

  higher_below : (n : ℕ) (ls : List L) → Below n ls → filter (λ l. nat_lt n (f l)) ls ≡ []
  higher_below n [] below = refl
  higher_below n (l ∷ ls) below =
      let lower : nat_lt n (f l) ≡ false = grind (arith, nat_tests) in
      rw lower (higher_below n ls below.1)

  higher_above : (n : ℕ) (ls : List L) → Above n ls → filter (λ l. nat_lt n (f l)) ls ≡ ls
  higher_above n [] above = refl
  higher_above n (l ∷ ls) above =
      let higher : nat_lt n (f l) ≡ true = grind (arith, nat_tests) in
      rw higher (ap (λ rest. l ∷ rest) (higher_above n ls above.1))

  others_below : (n : ℕ) (ls : List L) → Below n ls → filter (λ l. not (f l == n)) ls ≡ ls
  others_below n [] below = refl
  others_below n (l ∷ ls) below =
      let other : (f l == n) ≡ false = grind (arith, nat_tests) in
      rw other (ap (λ rest. l ∷ rest) (others_below n ls below.1))

  others_above : (n : ℕ) (ls : List L) → Above n ls → filter (λ l. not (f l == n)) ls ≡ ls
  others_above n [] above = refl
  others_above n (l ∷ ls) above =
      let other : (f l == n) ≡ false = grind (arith, nat_tests) in
      rw other (ap (λ rest. l ∷ rest) (others_above n ls above.1))

  -- the link of a number, between those of lower and of higher ones
  pub finds : (n : ℕ) (lower : List L) (o : Option L) (higher : List L) → Below n lower → IfSome o (λ l. f l ≡ n) → Above n higher → with_number f n (lower ++ (option_to_list o ++ higher)) ≡ o
  finds n lower None higher below is above = finds_behind n lower higher below ∙ finds_none n higher above
  finds n lower (Some l) higher below is above =
      let same : (f l == n) ≡ true = grind (arith, nat_tests, is) in
      finds_behind n lower (l ∷ higher) below ∙ rw same refl

  pub leaves : (n : ℕ) (lower : List L) (o : Option L) (higher : List L) → Below n lower → IfSome o (λ l. f l ≡ n) → Above n higher → without f n (lower ++ (option_to_list o ++ higher)) ≡ lower ++ higher
  leaves n lower None higher below is above =
      filter-append (λ l. not (f l == n)) lower higher ∙ rw (others_below n lower below, others_above n higher above) refl
  leaves n lower (Some l) higher below is above =
      let same : (f l == n) ≡ true = grind (arith, nat_tests, is) in
      filter-append (λ l. not (f l == n)) lower (l ∷ higher) ∙ rw (others_below n lower below, same, others_above n higher above) refl

  around : (link : L) (lower higher rest : List L) → Below (f link) lower → filter (λ l. nat_lt (f l) (f link)) rest ≡ [] → filter (λ l. nat_lt (f link) (f l)) rest ≡ higher → put f link (lower ++ rest) ≡ lower ++ link ∷ higher
  around link lower higher rest below left right =
      let front : filter (λ l. nat_lt (f l) (f link)) (lower ++ rest) ≡ lower = filter-append (λ l. nat_lt (f l) (f link)) lower rest ∙ rw (lower_below (f link) lower below, left) (append-nil lower) in
      let back : filter (λ l. nat_lt (f link) (f l)) (lower ++ rest) ≡ higher = filter-append (λ l. nat_lt (f link) (f l)) lower rest ∙ rw (higher_below (f link) lower below, right) refl in
      rw (front, back) refl

  pub puts : (link : L) (lower : List L) (o : Option L) (higher : List L) → Below (f link) lower → IfSome o (λ l. f l ≡ f link) → Above (f link) higher → put f link (lower ++ (option_to_list o ++ higher)) ≡ lower ++ link ∷ higher
  puts link lower None higher below is above = around link lower higher higher below (lower_above (f link) higher above) (higher_above (f link) higher above)
  puts link lower (Some l) higher below is above =
      let not_lower : nat_lt (f l) (f link) ≡ false = grind (arith, nat_tests, is) in
      let not_higher : nat_lt (f link) (f l) ≡ false = grind (arith, nat_tests, is) in
      around link lower higher (l ∷ higher) below (rw not_lower (lower_above (f link) higher above)) (rw not_higher (higher_above (f link) higher above))

  -- what is found has the number
  pub found_number : (n : ℕ) (ls : List L) → IfSome (with_number f n ls) (λ l. f l ≡ n)
  found_number n [] = tt
  found_number n (l ∷ ls) = by_test (f l == n) refl (found_number n ls)
    where
      by_test : (b : Bool) → (f l == n) ≡ b → IfSome (with_number f n ls) (λ l. f l ≡ n) → IfSome (cond b (Some l) (with_number f n ls)) (λ l. f l ≡ n)
      by_test true same rest = grind (arith, nat_tests)
      by_test false other rest = rest

  through : (p q : L → Bool) → ((l : L) → p l ≡ true → q l ≡ true) → (ls : List L) → filter p (filter q ls) ≡ filter p ls
  through p q passes [] = refl
  through p q passes (l ∷ ls) = by_test (q l) (p l) refl refl (through p q passes ls)
    where
      by_test : (a b : Bool) → q l ≡ a → p l ≡ b → filter p (filter q ls) ≡ filter p ls → filter p (cond a (l ∷ filter q ls) (filter q ls)) ≡ cond b (l ∷ filter p ls) (filter p ls)
      by_test true true q_is p_is same = rw p_is (ap (λ rest. l ∷ rest) same)
      by_test true false q_is p_is same = rw p_is same
      by_test false true q_is p_is same = absurd (let both : q l ≡ true = passes l p_is in cc)
      by_test false false q_is p_is same = same

  -- a link is put among the others as among all
  pub put_without : (link : L) (ls : List L) → put f link (without f (f link) ls) ≡ put f link ls
  put_without link ls =
      let lower = through (λ l. nat_lt (f l) (f link)) (λ l. not (f l == f link)) (λ l lt. other_than (f l) (f link) (grind (arith, nat_tests))) ls in
      let higher = through (λ l. nat_lt (f link) (f l)) (λ l. not (f l == f link)) (λ l lt. other_than (f l) (f link) (grind (arith, nat_tests))) ls in
      rw (lower, higher) refl
    where
      other_than : (a b : ℕ) → (a ≡ b → ⊥) → not (a == b) ≡ true
      other_than a b other = let test : (a == b) ≡ false = grind (arith, nat_tests) in rw test refl

  -- the same of the link of a number, which was taken out
  pub put_among : (n : ℕ) (link : L) (old ls : List L) → f link ≡ n → old ≡ without f n ls → put f link old ≡ put f link ls
  put_among n link old ls same is = rw is (rw (← same) (put_without link ls))
