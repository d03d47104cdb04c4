-- An id of an entity is ASCII.
use Rattle.std.proofs.Common.{◌≡◌, ℕ, Bool, true, false, cond, ltb, List, [], ◌∷◌, length, Some, None, refl, arith}
use Rattle.std.specs.Prelude.{IsTrue, nat_le, ◌&&◌, ◌||◌}
use Rattle.std.specs.List.{list_all, position, position_or_len}
use Rattle.std.proofs.lemmas.Bool.{le-ltb}
use Rattle.std.proofs.lemmas.Bool.Decides.{nat_tests}
use Rattle.cx_base.specs.declared.kinds.EntityType.{EntityType}
use Rattle.cx_base.specs.declared.kinds.EntityType.TheVariants.{Mon}
use Rattle.cx_base.specs.Names.{is_id, is_id_byte, same_kind}
use Rattle.cx_base.specs.Owners.{is_above_ascii}
use Rattle.cx_enc.specs.FieldLaws.{both_true}

low : (b : ℕ) → is_id_byte b ≡ true → is_above_ascii b ≡ false
low b e = grind (arith, nat_tests)

all_low : (bytes : List ℕ) → list_all is_id_byte bytes ≡ true → position_or_len is_above_ascii bytes ≡ length bytes
all_low [] e = refl
all_low (b ∷ bytes) e =
    let parts = both_true (is_id_byte b) (list_all is_id_byte bytes) e in
    rw (low b parts.0, all_low bytes parts.1) (omega arith)

nothing : (b : Bool) (x place : ℕ) → b ≡ false → cond b (Some x) None ≡ Some place → ⊥
nothing true x place past e = absurd cc
nothing false x place past e = absurd cc

pub id_is_ascii : (kind : EntityType) (id : List ℕ) (place : ℕ) → IsTrue (is_id kind id) → position is_above_ascii id ≡ Some place → ⊥
id_is_ascii kind id place good e =
    let parts = both_true (same_kind kind Mon || nat_le 1 (length id)) (nat_le (length id) 64 && list_all is_id_byte id) good in
    let all = both_true (nat_le (length id) 64) (list_all is_id_byte id) parts.1 in
    let past : ltb (position_or_len is_above_ascii id) (length id) ≡ false = le-ltb _ _ (omega (arith, all_low id all.1)) in
    nothing (ltb (position_or_len is_above_ascii id) (length id)) (position_or_len is_above_ascii id) place past e
