-- The bodies of messages 42 and 43, which are of this project's own.
use Rattle.std.specs.Prelude.{ℕ, ◌≡◌, ◌==◌, ◌≤◌, Bool, IsTrue, Option, Some, None, List, length, nat_le, if◌then◌else◌, refl}
use Rattle.std.proofs.Common.{arith}
use Rattle.cx_base.specs.declared.kinds.Access.{Access}
use Rattle.cx_base.specs.declared.kinds.Access.TheVariants.{Read, Write, Exec}
use Rattle.cx_base.specs.declared.operations.Operation.{Operation}
use Rattle.cx_base.specs.Texts.{is_part}
use Rattle.cx_enc.specs.Layouts.{Layout, ◌⊗◌, seen_as, checked_as, only_if, u8_field, blob_field}
use Rattle.cx_wire.specs.declared.answers.Answer.{Answer}

abbrev pub access_number : Access → ℕ
access_number Read = 1
access_number Write = 2
access_number Exec = 4

abbrev pub access_of : ℕ → Option Access
access_of n = if n == 1 then Some Read else if n == 2 then Some Write else if n == 4 then Some Exec else None

pub access_back : (n : ℕ) (x : Access) → access_of n ≡ Some x → access_number x ≡ n
access_back n x e = grind arith

-- an access by its number, one byte
abbrev pub access_field : Layout Access
access_field = checked_as u8_field access_of access_number (λ a x _ e. access_back a x e)

-- a pool, a namespace or an object
abbrev pub part_field : Layout (List ℕ)
part_field = only_if is_part blob_field

-- data: at most 65,536 bytes
abbrev pub is_data : List ℕ → Bool
is_data bytes = nat_le (length bytes) 65536

abbrev pub data_field : Layout (List ℕ)
data_field = only_if is_data blob_field

-- message 42: the access, the pool, the namespace, the object and the data
abbrev pub operation_layout : Layout Operation
operation_layout = seen_as (access_field ⊗ part_field ⊗ part_field ⊗ part_field ⊗ data_field)
    (λ (access, (pool, (namespace, (object, bytes)))). record { access = access; pool = pool; namespace = namespace; object = object; bytes = bytes })
    (λ o. (o.access, (o.pool, (o.namespace, (o.object, o.bytes)))))
    (λ _ _. refl) (λ _ _. refl)

-- an operation that can be written
pub record IsWritable (ask : Operation) : Type 0 where
  pub pool : IsTrue (is_part ask.pool)
  pub namespace : IsTrue (is_part ask.namespace)
  pub object : IsTrue (is_part ask.object)
  pub bytes : length ask.bytes ≤ 65536

-- message 43: the outcome (0 done, 1 denied, 2 no handler), and the data
abbrev pub is_outcome : ℕ → Bool
is_outcome n = nat_le n 2

abbrev pub answer_layout : Layout Answer
answer_layout = seen_as (only_if is_outcome u8_field ⊗ data_field)
    (λ (outcome, bytes). record { outcome = outcome; bytes = bytes })
    (λ a. (a.outcome, a.bytes))
    (λ _ _. refl) (λ _ _. refl)
