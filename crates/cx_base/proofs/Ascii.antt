-- Bytes without one above 0x7f are ASCII.
use Rattle.std.proofs.Common.{◌≡◌, ℕ, ◌<◌, ◌≤◌, List, length, get_or, Bool, true, false, cond, Some, None, arith, refl, inl, inr}
use Rattle.std.specs.Prelude.{nat_lt}
use Rattle.std.specs.List.{position, position_or_len}
use Rattle.std.specs.Str.{IsAscii}
use Rattle.std.proofs.lemmas.List.Sums.{fails_before_first}
use Rattle.std.proofs.lemmas.List.{get_or_past}
use Rattle.std.proofs.lemmas.Bool.{cases_lt}
use Rattle.std.proofs.lemmas.Bool.Decides.{nat_tests}
use Rattle.cx_base.specs.Owners.{is_above_ascii}

fails_where_none : {X : Type 0} (b : Bool) (x : X) → cond b (Some x) None ≡ None → b ≡ false
fails_where_none true x e = cc
fails_where_none false x e = refl

past_all : (bs : List ℕ) → position is_above_ascii bs ≡ None → length bs ≤ position_or_len is_above_ascii bs
past_all bs none =
    let far = fails_where_none (nat_lt (position_or_len is_above_ascii bs) (length bs)) (position_or_len is_above_ascii bs) none in
    grind (arith, nat_tests, far)

low : (b : ℕ) → is_above_ascii b ≡ false → b < 128
low b e = grind (arith, nat_tests)

pub ascii_from_none : (bs : List ℕ) → position is_above_ascii bs ≡ None → IsAscii bs
ascii_from_none bs none i =
    elim (cases_lt i (length bs)) as (λ _. get_or bs i 0 < 128) [
      | inl lt ↦ low (get_or bs i 0) (fails_before_first is_above_ascii bs i 0 (let far = past_all bs none in omega (arith, far)))
      | inr ge ↦ rw (get_or_past bs i 0 ge) (omega arith)
    ]
