-- Written bytes.
use Rattle.std.proofs.Common.{ℕ, List, [], Ok, sym, subst}
use Rattle.cx_enc.specs.Forms.{Form}
use Rattle.cx_enc.specs.Whole.{Spells}
use Rattle.cx_wire.specs.cx_control.specs.Calls.{IsPutBy}

-- what is written behind nothing is spelled by all of the bytes
pub put_spells : {X : Type 0} (form : Form X) (x : X) (new : List ℕ) → IsPutBy form x [] new (Ok tt) → Spells form new x
put_spells {X} form x new put = subst (λ (bytes : List ℕ). Spells form bytes x) (sym put.ok) put.spells
