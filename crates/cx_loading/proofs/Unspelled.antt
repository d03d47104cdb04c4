-- Bytes that spell no state.
use Rattle.std.proofs.Common.{◌≡◌, ℕ, List, Option, Some, Result, Ok, Err, IfErr, subst}
use Rattle.cx_keep.specs.Formats.{IsRefusedAt, SpellsState}
use Rattle.cx_keep.specs.declared.format.BadState.{BadState}
use Rattle.cx_rotate.specs.declared.states.KeptState.{KeptState}
use Rattle.cx_loading.specs.Loading.{IsStateServed, IsUnspelled}

-- what isn't read is unspelled
pub unspelled : (lives : ℕ × ℕ) (bytes : List ℕ) (read : Result KeptState BadState) → IfErr read (λ bad. IsRefusedAt bytes bad.0)
    → ((state : KeptState) → SpellsState lives bytes state → read ≡ Ok state) → IfErr read (λ bad. IsUnspelled lives bytes bad.0)
unspelled lives bytes (Ok state) refused only = tt
unspelled lives bytes (Err bad) refused only = (refused, λ state spells. (let e : Err bad ≡ Ok state = only state spells in cc))

-- and stands for no state
pub unserved : (lives : ℕ × ℕ) (loaded : Option (List ℕ)) (bytes : List ℕ) (place : ℕ) → loaded ≡ Some bytes → IsUnspelled lives bytes place → IsStateServed lives loaded → ⊥
unserved lives loaded bytes place is never served = let here : IsStateServed lives (Some bytes) = subst (IsStateServed lives) is served in never.1 here.0 here.1
