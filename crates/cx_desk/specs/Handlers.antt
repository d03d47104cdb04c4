-- What a handler of a kind of access is called on and what it answers, and for which kinds a desk has one.
use Rattle.std.specs.Prelude.{◌≡◌, ℕ, List, length, decimal, Bool, true, IsTrue, Result}
use Rattle.std.specs.Result.{ForOk}
use Rattle.std.specs.declared.alloc.Global.{Global}
use Rattle.std.specs.declared.alloc.AllocError.{AllocError}
use denote.Ref.{Bor}
use Rattle.cx_base.specs.declared.operations.Operation.{Operation}
use Rattle.cx_base.specs.declared.kinds.Access.{Access}
use Rattle.cx_base.specs.declared.kinds.Access.TheVariants.{Read, Write, Exec}
use Rattle.cx_caps.specs.Permissions.{Permission}
use Rattle.cx_caps.specs.Reading.{cap_allows}

-- what is answered to an operation: to a read the object's name, to a write the length of the data in decimal digits, to an
-- exec the data
abbrev pub answer_of : Access → Operation → List ℕ
answer_of Read ask = ask.object
answer_of Write ask = decimal (length ask.bytes)
answer_of Exec ask = ask.bytes

abbrev pub Answers : Access → Operation → List ℕ → Type 0
Answers kind ask reply = reply ≡ answer_of kind ask

-- an operation of this kind that its capability text allows
abbrev pub IsPermitted : Access → Permission → Type 0
IsPermitted kind permission = (permission.ask.access ≡ kind) × IsTrue (cap_allows permission.caps permission.ask)

-- a handler may be called on each permitted operation of its kind, and what it answers to one is its answer, where memory
-- isn't wanting
abbrev pub IsCallable : Access → (Global → Bor Permission → Type 0) → Type 0
IsCallable kind pre = (alloc : Global) (ask : Bor Permission) → IsPermitted kind ask.now → pre alloc ask

abbrev pub IsFaithful : Access → (Global → Bor Permission → Result (List ℕ) AllocError → Type 0) → Type 0
IsFaithful kind post = (alloc : Global) (ask : Bor Permission) (result : Result (List ℕ) AllocError)
    → IsPermitted kind ask.now → post alloc ask result → ForOk result (λ reply. Answers kind ask.now.ask reply)

-- for which kinds there is a handler
pub record Handlers : Type 0 where
  pub read : Bool
  pub write : Bool
  pub exec : Bool

-- whether there is one for this kind
abbrev pub has_handler : Access → Handlers → Bool
has_handler Read handlers = handlers.read
has_handler Write handlers = handlers.write
has_handler Exec handlers = handlers.exec

-- and one for this kind too
abbrev pub with_handler : Access → Handlers → Handlers
with_handler Read handlers = record handlers { read = true }
with_handler Write handlers = record handlers { write = true }
with_handler Exec handlers = record handlers { exec = true }
