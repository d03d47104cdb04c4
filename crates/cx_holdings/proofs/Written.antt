-- What is written behind nothing.
use Rattle.std.proofs.Common.{◌≡◌, ℕ, ◌+◌, ◌<◌, ◌≤◌, ◌^◌, List, [], Ok, length, length-append, arith}
use Rattle.std.specs.Prelude.{IsTrue, nat_le, ◌&&◌, ◌||◌}
use Rattle.std.specs.List.{list_all}
use Rattle.std.proofs.lemmas.Bool.Decides.{nat_tests}
use Rattle.cx_base.specs.Names.{Name, is_id, is_id_byte, same_kind}
use Rattle.cx_base.specs.declared.kinds.EntityType.TheVariants.{Mon}
use Rattle.cx_control.specs.Calls.{IsPutBy}
use Rattle.cx_enc.specs.FieldLaws.{both_true}
use Rattle.cx_enc.specs.Forms.{Form, little}
use Rattle.cx_enc.specs.Values.{kind_form, name_form}
use Rattle.cx_wire.specs.Logins.{login_hello_layout}

-- the bytes are the text of the value
pub put_is : {X : Type 0} (form : Form X) (x : X) (new : List ℕ) → IsPutBy form x [] new (Ok tt) → new ≡ form.text x
put_is form x new put = put.ok

-- a LoginHello is short
pub hello_is_short : (name : Name) (gid : ℕ) → IsTrue (is_id name.kind name.id) → length (login_hello_layout.form.text (record { name = name; gid = gid })) < 2 ^ 32
unfolding name_form kind_form little
hello_is_short name gid good =
    let parts = both_true (same_kind name.kind Mon || nat_le 1 (length name.id)) (nat_le (length name.id) 64 && list_all is_id_byte name.id) good in
    let short = both_true (nat_le (length name.id) 64) (list_all is_id_byte name.id) parts.1 in
    let few : length name.id ≤ 64 = grind (arith, nat_tests) in
    simp length-append (omega arith)
