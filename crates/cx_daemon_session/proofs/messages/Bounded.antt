-- What answers an operation of message 42 fits message 43.
use Rattle.std.proofs.Common.{◌≡◌, ℕ, ◌<◌, ◌≤◌, ◌^◌, Bool, true, List, [], ◌∷◌, length, arith}
use Rattle.std.specs.Prelude.{◌&&◌, codes, decimal, nat_le, not}
use Rattle.std.specs.List.{list_all}
use Rattle.std.specs.Str.{bytes_eq}
use Rattle.std.proofs.lemmas.Bool.{leb-true}
use Rattle.std.proofs.lemmas.Fmt.{length-decimal-le}
use Rattle.cx_base.specs.Texts.{is_part, is_part_byte}
use Rattle.cx_base.specs.declared.kinds.Access.{Access}
use Rattle.cx_base.specs.declared.kinds.Access.TheVariants.{Read, Write, Exec}
use Rattle.cx_base.specs.declared.operations.Operation.{Operation}
use Rattle.cx_desk.specs.Handlers.{answer_of}
use Rattle.cx_enc.specs.FieldLaws.{both_true}
use Rattle.cx_journal.specs.declared.outcomes.Outcome.{Outcome}
use Rattle.cx_journal.specs.declared.outcomes.Outcome.TheVariants.{Done, Denied, NoHandler}
use Rattle.cx_daemon_session.specs.cx_rules_session.specs.Hosting.{answer_data}
use Rattle.cx_wire.specs.Operations.{IsWritable}

part_short : (text : List ℕ) → is_part text ≡ true → length text ≤ 255
part_short [] good = omega arith
part_short (b ∷ bs) good =
    let text : List ℕ = b ∷ bs in
    let short = both_true (not (bytes_eq text (codes "-")) && nat_le 1 (length text) && nat_le (length text) 255) (list_all is_part_byte text) good in
    leb-true (length text) 255 (both_true (not (bytes_eq text (codes "-")) && nat_le 1 (length text)) (nat_le (length text) 255) short.0).1

answer_short : (access : Access) (ask : Operation) → IsWritable ask → length (answer_of access ask) ≤ 65536
answer_short Read ask w = omega (arith, part_short ask.object w.object)
answer_short Write ask w = omega (arith, length-decimal-le 5 (length ask.bytes) (omega arith) (omega (arith, w.bytes)) (omega (arith, w.bytes)))
answer_short Exec ask w = w.bytes

pub answer_bounded : (ask : Operation) (outcome : Outcome) → IsWritable ask → length (answer_data ask outcome) ≤ 65536
answer_bounded ask Done w = answer_short ask.access ask w
answer_bounded ask Denied w = omega arith
answer_bounded ask NoHandler w = omega arith
