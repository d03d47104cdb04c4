-- Where no byte is refused, each is one of a capability text's.
use Rattle.std.proofs.Common.{◌≡◌, ℕ, ◌≤◌, List, length, get_or, Bool, true, false, cond, not, Some, None, arith, refl}
use Rattle.std.specs.Prelude.{nat_lt}
use Rattle.std.specs.List.{position, position_or_len, list_all}
use Rattle.std.proofs.lemmas.List.Sums.{fails_before_first, list_all-from_AllPass}
use Rattle.std.proofs.lemmas.Bool.Decides.{nat_tests}
use Rattle.cx_base.specs.Texts.{is_caps_byte}
use Rattle.cx_caps.specs.Texts.{is_refused_byte}

fails_where_none : {X : Type 0} (b : Bool) (x : X) → cond b (Some x) None ≡ None → b ≡ false
fails_where_none true x e = cc
fails_where_none false x e = refl

past_all : (bs : List ℕ) → position is_refused_byte bs ≡ None → length bs ≤ position_or_len is_refused_byte bs
past_all bs none =
    let far = fails_where_none (nat_lt (position_or_len is_refused_byte bs) (length bs)) (position_or_len is_refused_byte bs) none in
    grind (arith, nat_tests, far)

not_refused : (b : Bool) → not b ≡ false → b ≡ true
not_refused true e = refl
not_refused false e = cc

pub all_from_none : (bs : List ℕ) → position is_refused_byte bs ≡ None → list_all is_caps_byte bs ≡ true
all_from_none bs none =
    list_all-from_AllPass is_caps_byte bs (λ k d lt. not_refused (is_caps_byte (get_or bs k d)) (fails_before_first is_refused_byte bs k d (let far = past_all bs none in omega (arith, far))))
