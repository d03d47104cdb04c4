-- Bytes that all pass a test which no byte above 0x7f passes are ASCII.
use Rattle.std.proofs.Common.{◌≡◌, ℕ, Bool, true, false, List, [], ◌∷◌, get_or, Option, Some, None, refl, sym, ◌∙◌, arith}
use Rattle.std.specs.List.{list_all, position}
use Rattle.std.proofs.lemmas.Bool.{true≢false, and_parts}
use Rattle.std.proofs.lemmas.Bool.Decides.{nat_tests}
use Rattle.std.proofs.lemmas.List.Quantifiers.{position-Some}
use Rattle.std.proofs.lemmas.List.Sums.{AllPass-from_list_all}
use Rattle.cx_base.specs.Names.{is_id, is_id_byte}
use Rattle.cx_base.specs.Owners.{is_above_ascii}
use Rattle.cx_base.specs.declared.kinds.EntityType.{EntityType}
use Rattle.cx_base.specs.Texts.{is_caps, is_caps_byte, is_long_part, is_part, is_part_byte}

none_above : (test : ℕ → Bool) (bytes : List ℕ) → ((b : ℕ) → test b ≡ true → is_above_ascii b ≡ false) → list_all test bytes ≡ true
    → (found : Option ℕ) → position is_above_ascii bytes ≡ found → position is_above_ascii bytes ≡ None
none_above test bytes low all None e = e
none_above test bytes low all (Some place) e =
    let at = position-Some is_above_ascii bytes place 0 e in
    let pass : test (get_or bytes place 0) ≡ true = AllPass-from_list_all test bytes all place 0 at.0 in
    absurd (true≢false (sym at.1 ∙ low (get_or bytes place 0) pass))

pub ascii_where : (test : ℕ → Bool) (bytes : List ℕ) → ((b : ℕ) → test b ≡ true → is_above_ascii b ≡ false)
    → list_all test bytes ≡ true → position is_above_ascii bytes ≡ None
ascii_where test bytes low all = none_above test bytes low all (position is_above_ascii bytes) refl

low_id_byte : (b : ℕ) → is_id_byte b ≡ true → is_above_ascii b ≡ false
low_id_byte b h = grind (arith, nat_tests, h)

low_caps_byte : (b : ℕ) → is_caps_byte b ≡ true → is_above_ascii b ≡ false
low_caps_byte b h = grind (arith, nat_tests, h)

low_part_byte : (b : ℕ) → is_part_byte b ≡ true → is_above_ascii b ≡ false
low_part_byte b h = grind (arith, nat_tests, h)

pub ascii_id_bytes : (id : List ℕ) → list_all is_id_byte id ≡ true → position is_above_ascii id ≡ None
ascii_id_bytes id all = ascii_where is_id_byte id low_id_byte all

pub ascii_id : (kind : EntityType) (id : List ℕ) → is_id kind id ≡ true → position is_above_ascii id ≡ None
ascii_id kind id h =
    let parts = and_parts _ _ h in
    let all = and_parts _ _ parts.1 in
    ascii_id_bytes id all.1

pub ascii_caps : (text : List ℕ) → is_caps text ≡ true → position is_above_ascii text ≡ None
ascii_caps text h = ascii_where is_caps_byte text low_caps_byte ((and_parts _ _ h).1)

pub ascii_long_part : (text : List ℕ) → is_long_part text ≡ true → position is_above_ascii text ≡ None
ascii_long_part text h = ascii_where is_part_byte text low_part_byte ((and_parts _ _ h).1)

pub ascii_part : (text : List ℕ) → is_part text ≡ true → position is_above_ascii text ≡ None
ascii_part [] h = refl
ascii_part (b ∷ bs) h = ascii_long_part (b ∷ bs) h
