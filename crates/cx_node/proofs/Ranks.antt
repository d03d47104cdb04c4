-- Where a number stands among places whose numbers rise.
use Rattle.std.proofs.Common.{ℕ, zero, suc, ◌≡◌, ◌≢◌, ◌+◌, ◌<◌, ◌≤◌, true, false, ltb, List, [], ◌∷◌, length, get_or, take, drop, arith, sym, ap, ◌∙◌}
use Rattle.std.proofs.lemmas.Bool.Decides.{nat_tests}
use Rattle.std.proofs.lemmas.List.{drop_more, get_or_read}
use Rattle.std.proofs.lemmas.List.Sorted.{IsPartitionedBy-ltb}
use Rattle.std.specs.List.{AllWithin}
use Rattle.std.specs.List.Sorted.{IsNonDecreasingBy, IsPartitionedBy}
use Rattle.cx_node.specs.Places.{Slot, IsRising, AreBelow, AreFrom, IsFoundAt, IsMissingAt}

module _ {L : Type 0} where
  from_lower : (high low : ℕ) (slots : List (Slot L)) → low ≤ high → AreFrom high slots → AreFrom low slots
  from_lower high low [] le from = tt
  from_lower high low (s ∷ slots) le from = (omega (arith, from.0), from_lower high low slots le from.1)

  -- the numbers are at least the one from which they rise
  pub rising_from : (low : ℕ) (slots : List (Slot L)) → IsRising low slots → AreFrom low slots
  rising_from low [] rising = tt
  rising_from low (s ∷ slots) rising = (rising.0, from_lower (s.number + 1) low slots (omega (arith, rising.0)) (rising_from (s.number + 1) slots rising.1))

  least : (low : ℕ) (slots : List (Slot L)) → IsRising low slots → (j : ℕ) (d : Slot L) → j < length slots → low ≤ (get_or slots j d).number
  least low [] rising j d within = absurd (omega arith)
  least low (s ∷ slots) rising zero d within = rising.0
  least low (s ∷ slots) rising (suc j) d within =
      let later : s.number + 1 ≤ (get_or slots j d).number = least (s.number + 1) slots rising.1 j d (omega arith) in
      omega (arith, rising.0)

  pub rises : (low : ℕ) (slots : List (Slot L)) → IsRising low slots → IsNonDecreasingBy (λ s. s.number) slots
  rises low [] rising i j d le within = absurd (omega arith)
  rises low (s ∷ slots) rising zero zero d le within = omega arith
  rises low (s ∷ slots) rising zero (suc j) d le within =
      let later : s.number + 1 ≤ (get_or slots j d).number = least (s.number + 1) slots rising.1 j d (omega arith) in
      omega arith
  rises low (s ∷ slots) rising (suc i) zero d le within = absurd (omega arith)
  rises low (s ∷ slots) rising (suc i) (suc j) d le within = rises (s.number + 1) slots rising.1 i j d (omega arith) (omega arith)

  pub parts : (n low : ℕ) (slots : List (Slot L)) → IsRising low slots → IsPartitionedBy (λ s. ltb s.number n) slots
  parts n low slots rising = IsPartitionedBy-ltb (λ s. s.number) slots n (rises low slots rising)

  pub all_below : (n : ℕ) (slots : List (Slot L)) (i : ℕ) → AllWithin (λ s. ltb s.number n ≡ true) slots 0 i → i ≤ length slots → AreBelow n (take i slots)
  all_below n slots zero all within = tt
  all_below n [] (suc i) all within = tt
  all_below n (s ∷ slots) (suc i) all within =
      let first : ltb s.number n ≡ true = all 0 s (omega arith) (omega arith) in
      (grind (arith, nat_tests), all_below n slots i (λ k d low high. all (suc k) d (omega arith) (omega arith)) (omega arith))

  pub all_from : (n : ℕ) (slots : List (Slot L)) (i : ℕ) → AllWithin (λ s. ltb s.number n ≡ false) slots i (length slots) → AreFrom n (drop i slots)
  all_from n [] zero all = tt
  all_from n [] (suc i) all = tt
  all_from n (s ∷ slots) zero all =
      let first : ltb s.number n ≡ false = all 0 s (omega arith) (omega arith) in
      (grind (arith, nat_tests), all_from n slots zero (λ k d low high. all (suc k) d (omega arith) (omega arith)))
  all_from n (s ∷ slots) (suc i) all = all_from n slots i (λ k d low high. all (suc k) d (omega arith) (omega arith))

  -- the part from a place on rises too
  pub rising_drop : (low : ℕ) (slots : List (Slot L)) (i : ℕ) → IsRising low slots → (from : ℕ) × IsRising from (drop i slots)
  rising_drop low slots zero rising = (low, rising)
  rising_drop low [] (suc i) rising = (low, tt)
  rising_drop low (s ∷ slots) (suc i) rising = rising_drop (s.number + 1) slots i rising.1

  behind_first : (n from : ℕ) (s : Slot L) (slots rest : List (Slot L)) → slots ≡ s ∷ rest → IsRising from slots → s.number ≡ n → AreFrom (n + 1) rest
  behind_first n from s slots rest is rising same =
      let both : IsRising from (s ∷ rest) = rw is at rising in
      rw same at (rising_from (s.number + 1) rest both.1)

  pub found_at : (n : ℕ) (slots : List (Slot L)) (i : ℕ) (s : Slot L) → IsRising 0 slots → AreBelow n (take i slots) → i < length slots → s ≡ get_or slots i s → s.number ≡ n → IsFoundAt n slots i
  found_at n slots i s rising below within read same =
      let part = rising_drop 0 slots i rising in
      let split : drop i slots ≡ s ∷ drop (i + 1) slots = rw (← read) at (drop_more slots i s within) in
      record {
        within = within;
        below = below;
        found = λ d. ap (λ (x : Slot L). x.number) (sym (get_or_read slots i s within read d)) ∙ same;
        above = behind_first n part.0 s (drop i slots) (drop (i + 1) slots) split part.1 same;
      }

  above_first : (n from : ℕ) (s : Slot L) (slots rest : List (Slot L)) → slots ≡ s ∷ rest → IsRising from slots → AreFrom n slots → s.number ≢ n → AreFrom (n + 1) slots
  above_first n from s slots rest is rising least other =
      let both : IsRising from (s ∷ rest) = rw is at rising in
      let low : AreFrom n (s ∷ rest) = rw is at least in
      let first : n + 1 ≤ s.number = omega (arith, low.0, other) in
      rw is (first, from_lower (s.number + 1) (n + 1) rest (omega arith) (rising_from (s.number + 1) rest both.1))

  pub missing_at : (n : ℕ) (slots : List (Slot L)) (i : ℕ) (s : Slot L) → IsRising 0 slots → AreBelow n (take i slots) → AreFrom n (drop i slots) → i < length slots → s ≡ get_or slots i s → s.number ≢ n → IsMissingAt n slots i
  missing_at n slots i s rising below least within read other =
      let part = rising_drop 0 slots i rising in
      let split : drop i slots ≡ s ∷ drop (i + 1) slots = rw (← read) at (drop_more slots i s within) in
      record {
        within = omega arith;
        below = below;
        above = above_first n part.0 s (drop i slots) (drop (i + 1) slots) split part.1 least other;
      }
