-- What is read as an operation has an address.
use Rattle.std.proofs.Common.{◌≡◌, ◌==◌, ℕ, Bool, true, false, List, Option, Some, None, Result, Ok, Err, refl, ap, subst}
use Rattle.std.specs.Prelude.{if◌then◌else◌}
use Rattle.cx_base.specs.Texts.{is_part}
use Rattle.cx_base.specs.declared.kinds.Access.{Access}
use Rattle.cx_base.specs.declared.operations.Operation.{Operation}
use Rattle.cx_enc.specs.Forms.{Spot, blob_form, judged, or_bad, pair, passed}
use Rattle.cx_enc.specs.Whole.{start}
use Rattle.cx_journal.specs.declared.faults.BytesFault.{BytesFault}
use Rattle.cx_journal.specs.declared.faults.BytesFault.TheVariants.{Unexpected}
use Rattle.cx_laws_run.specs.cx_laws_links.proofs.links.Hearing.{whole-read}
use Rattle.cx_laws_run.specs.cx_rules.specs.Messages.{Message}
use Rattle.cx_laws_run.specs.cx_rules.specs.Payloads.{whole}
use Rattle.cx_laws_run.specs.cx_rules_session.specs.Hosting.{Instruction, instruction_by, instruction_of}
use Rattle.cx_wire.specs.Operations.{access_field, data_field, operation_layout, part_field}
use Rattle.cx_laws_keys.proofs.keys.Reading.{bind_ok, ok_is, pair_parts, unseen}
use Rattle.cx_laws_legal.proofs.entered.Shown.{AreParts}

-- ---- one part

passed-is : (good : List ℕ → Bool) (a x : List ℕ) → passed good a ≡ Some x → good x ≡ true
passed-is good a x is = by_test (good a) refl is
  where
    by_test : (t : Bool) → good a ≡ t → (if t then Some a else None) ≡ Some x → good x ≡ true
    by_test true h e = let same : a ≡ x = cc in subst (λ (b : List ℕ). good b ≡ true) same h
    by_test false h e = absurd cc

bad-is : (place : ℕ) (o : Option (List ℕ)) (behind : Spot) (x : List ℕ) (next : Spot) → or_bad place o behind ≡ Ok (x, next) → o ≡ Some x
bad-is place (Some y) behind x next e = let same : (y, behind) ≡ (x, next) = ok_is (y, behind) (x, next) e in ap (λ (p : List ℕ × Spot). Some p.0) same
bad-is place None behind x next e = absurd cc

-- what is read of a field of which only some values are good is one of them
judged-good : (good : List ℕ → Bool) (s : Spot) (x : List ℕ) (next : Spot) → (judged good blob_form).at s ≡ Ok (x, next) → good x ≡ true
judged-good good s x next e =
    let a = bind_ok (blob_form.at s) (λ a. or_bad s.place (passed good a.0) a.1) (x, next) e in
    passed-is good a.0.0 x (bad-is s.place (passed good a.0.0) a.0.1 x next a.2)

-- ---- an operation

abbrev Fields : Type 0
Fields = Access × (List ℕ × (List ℕ × (List ℕ × List ℕ)))

abbrev made : Fields → Operation
made x = record { access = x.0; pool = x.1.0; namespace = x.1.1.0; object = x.1.1.1.0; bytes = x.1.1.1.1 }

whole-parts : (bytes : List ℕ) (o : Operation) → whole operation_layout.form bytes ≡ Ok o → AreParts o
whole-parts bytes o is =
    let r = whole-read operation_layout.form bytes o is in
    let object = pair part_field.form data_field.form in
    let namespace = pair part_field.form object in
    let pool = pair part_field.form namespace in
    let a = unseen made (λ o. (o.access, (o.pool, (o.namespace, (o.object, o.bytes))))) (pair access_field.form pool) (start bytes) o r.0 r.1 in
    let first = pair_parts access_field.form pool (start bytes) a.0 r.0 a.2 in
    let second = pair_parts part_field.form namespace first.0 a.0.1 r.0 first.2 in
    let third = pair_parts part_field.form object second.0 a.0.1.1 r.0 second.2 in
    let fourth = pair_parts part_field.form data_field.form third.0 a.0.1.1.1 r.0 third.2 in
    subst AreParts a.1 (
      judged-good is_part first.0 a.0.1.0 second.0 second.1,
      judged-good is_part second.0 a.0.1.1.0 third.0 third.1,
      judged-good is_part third.0 a.0.1.1.1.0 fourth.0 fourth.1,
    )

-- ---- a message

abbrev pub IsReadWithParts : Result Instruction BytesFault → Type 0
IsReadWithParts (Ok i) = AreParts i.operation
IsReadWithParts (Err why) = Unit {0}

pub instruction-parts : (found : Result Message BytesFault) → IsReadWithParts (instruction_of found)
instruction-parts (Err why) = tt
instruction-parts (Ok m) = by_test (m.header.type_ == 42)
  where
    by_read : (read : Result Operation BytesFault) → whole operation_layout.form m.body ≡ read → IsReadWithParts (instruction_by m read)
    by_read (Ok o) is = whole-parts m.body o is
    by_read (Err why) is = tt

    by_test : (t : Bool) → IsReadWithParts (if t then instruction_by m (whole operation_layout.form m.body) else Err (Unexpected 17))
    by_test true = by_read (whole operation_layout.form m.body) refl
    by_test false = tt
