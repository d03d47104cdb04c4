-- Which values have a spelling.
use Rattle.std.proofs.Common.{◌≡◌, ◌<◌, ◌^◌, length, Some, refl, arith}
use Rattle.std.specs.Prelude.{IsTrue, nat_le, ◌&&◌, ◌||◌}
use Rattle.std.specs.List.{list_all}
use Rattle.std.proofs.lemmas.Bool.Decides.{nat_tests}
use Rattle.cx_base.specs.declared.kinds.EntityType.TheVariants.{Mon}
use Rattle.cx_base.specs.Names.{Name, is_id, is_id_byte, same_kind}
use Rattle.cx_enc.specs.Values.{kind_form, name_of, name_parts, name_form}
use Rattle.cx_enc.specs.FieldLaws.{both_true, kind_again, kind_fits}

-- a name whose id is one of its type
pub name_fits : (name : Name) → IsTrue (is_id name.kind name.id) → name_form.Fits name
unfolding name_form kind_form
name_fits name good =
    let parts = both_true (same_kind name.kind Mon || nat_le 1 (length name.id)) (nat_le (length name.id) 64 && list_all is_id_byte name.id) good in
    let short = both_true (nat_le (length name.id) 64) (list_all is_id_byte name.id) parts.1 in
    let fits : length name.id < 2 ^ 32 = grind (arith, nat_tests) in
    let made : name_of (name_parts name) ≡ Some name = rw (kind_again name.kind, good) refl in
    (((kind_fits name.kind).0, fits), made)
