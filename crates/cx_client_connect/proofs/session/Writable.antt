-- Operations that wait can be written, and how long they are when they are.
use Rattle.std.proofs.Common.{◌≡◌, ℕ, Bool, true, false, ◌<◌, ◌≤◌, ◌+◌, ◌^◌, List, [], ◌∷◌, ◌++◌, All, length, Result, Ok, Err, ap, subst, sym, arith, length-append}
use Rattle.std.specs.Prelude.{IsTrue, OnErr, OnOk, codes, nat_le, ◌&&◌, not}
use Rattle.std.specs.List.{list_all}
use Rattle.std.specs.Str.{bytes_eq}
use Rattle.std.proofs.lemmas.Bool.Decides.{nat_tests}
use Rattle.cx_base.specs.Texts.{is_long_part, is_part, is_part_byte}
use Rattle.cx_frame.specs.Frames.{total}
use Rattle.cx_rules_session.specs.Complete.{IsSizedOperation}
use Rattle.cx_rules_session.specs.Sessions.{operation_message}
use Rattle.cx_rules_session.proofs.Sealable.{short-operation}
use Rattle.cx_rules_session.specs.cx_rules.proofs.Carrying.{total-message}
use Rattle.std.proofs.lemmas.List.Elements.{All-push}
use Rattle.cx_base.specs.declared.operations.Operation.{Operation}
use Rattle.cx_session.specs.Queue.{KeptQueue, pushed}
use Rattle.cx_wire.specs.Operations.{IsWritable, operation_layout}

abbrev Writable : KeptQueue → Type 0
Writable kept = All (λ (ask : ℕ × Operation). IsWritable ask.1) kept.queue.waiting

pub writable_behind : {X E : Type 0} (old new : KeptQueue) (operation : Operation) (r : Result X E) → Writable old → IsWritable operation
    → OnOk r (new.queue ≡ pushed old.queue operation) → OnErr r (new ≡ old) → Writable new
writable_behind old new operation (Ok x) all one is same =
    let IsAll : List (ℕ × Operation) → Type 0 = λ asks. All (λ (ask : ℕ × Operation). IsWritable ask.1) asks in
    let grown : All (λ (ask : ℕ × Operation). IsWritable ask.1) (pushed old.queue operation).waiting =
    All-push (λ (ask : ℕ × Operation). IsWritable ask.1) old.queue.waiting (old.queue.last + 1, operation) all one in
    rw is grown
writable_behind old new operation (Err e) all one is same = subst Writable (sym same) all

-- ---- how long they are

short_long : (low one all : Bool) (size : ℕ) → (((low && one) && nat_le size 255) && all) ≡ true → size ≤ 255
short_long true true true size e = grind (arith, nat_tests)
short_long true true false size e = absurd (false_is (nat_le size 255) e)
  where
    false_is : (t : Bool) → (t && false) ≡ true → ⊥
    false_is true e = cc
    false_is false e = cc
short_long true false all size e = absurd (cc)
short_long false one all size e = absurd (cc)

short_part : (text : List ℕ) → IsTrue (is_part text) → length text ≤ 255
short_part [] is = omega arith
short_part (b ∷ bs) is =
    short_long (not (bytes_eq (b ∷ bs) (codes "-"))) (nat_le 1 (length (b ∷ bs))) (list_all is_part_byte (b ∷ bs)) (length (b ∷ bs)) is

pub short_body : (operation : Operation) → IsWritable operation → length (operation_layout.form.text operation) < 2 ^ 32
short_body operation is =
    let sized : IsSizedOperation operation = record {
      pool = short_part operation.pool is.pool;
      namespace = short_part operation.namespace is.namespace;
      object = short_part operation.object is.object;
      bytes = is.bytes;
    } in
    omega (arith, short-operation 0 operation sized, total-message (record { seq = 0; tid = 0; type_ = 42 }) (operation_layout.form.text operation))
