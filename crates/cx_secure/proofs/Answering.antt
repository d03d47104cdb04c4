-- What an answer says of its value.
use Rattle.std.proofs.Common.{◌≡◌, Result, Ok, Err}
use Rattle.std.specs.Prelude.{IfOk}
use Rattle.cx_secure.specs.declared.refusals.SecureRefusal.{SecureRefusal}
use Rattle.cx_secure.specs.Refusing.{Agrees}

pub agrees_ok : {X P : Type 0} (r expected : Result X SecureRefusal) (Q : X → Type 0) → Agrees r expected → IfOk r (λ _. P) → ((x : X) → P → expected ≡ Ok x → Q x) → IfOk r Q
agrees_ok (Ok x) expected Q is p of = of x p is
agrees_ok (Err e) expected Q is p of = tt

pub always : {X P : Type 0} (r : Result X SecureRefusal) → P → IfOk r (λ _. P)
always (Ok x) p = p
always (Err e) p = tt
