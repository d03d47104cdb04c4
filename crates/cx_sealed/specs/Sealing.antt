-- What opening and sealing a record answer.
use Rattle.std.specs.Prelude.{ℕ, ◌≡◌, ◌⊎◌, List, Result, Ok, Err, IfOk}
use Rattle.cx_cbc.specs.Envelope.{sealed, Opens}
use Rattle.cx_enc.specs.Forms.{Form}
use Rattle.cx_enc.specs.Whole.{Spells}
use Rattle.cx_sealed.specs.declared.refusals.SealedRefusal.{SealedRefusal}
use Rattle.cx_sealed.specs.declared.refusals.SealedRefusal.TheVariants.{Unopened, Misread, OutOfMemory}

-- the sealed bytes open to a content that spells the value
abbrev pub OpensTo : {X : Type 0} → Form X → List ℕ → List ℕ → X → Type 0
OpensTo form key bytes x = (content : List ℕ) × Opens key bytes content × Spells form content x

-- the answer is this value, unless memory was wanting
abbrev pub Yields : {X : Type 0} → Result X SealedRefusal → X → Type 0
Yields (Ok y) x = y ≡ x
Yields (Err e) x = e ≡ OutOfMemory

-- the answer is this refusal, unless memory was wanting
abbrev pub IsRefusal : {X : Type 0} → Result X SealedRefusal → SealedRefusal → Type 0
IsRefusal (Ok x) why = ⊥
IsRefusal (Err e) why = (e ≡ why) ⊎ (e ≡ OutOfMemory)

-- an opened record is what the sealed bytes open to, exactly; they are refused as unopened exactly where they open to no
-- content, and as misread exactly where they open to a content that is no spelling of the record; each of these yields to want
-- of memory alone
pub record IsOpened {X : Type 0} (form : Form X) (key bytes : List ℕ) (result : Result X SealedRefusal) : Type 0 where
  pub found : IfOk result (OpensTo form key bytes)
  pub only : (x : X) → OpensTo form key bytes x → Yields result x
  pub unopened : result ≡ Err Unopened → (content : List ℕ) → Opens key bytes content → ⊥
  pub unopened_only : ((content : List ℕ) → Opens key bytes content → ⊥) → IsRefusal result Unopened
  pub misread : result ≡ Err Misread → (content : List ℕ) × Opens key bytes content × ((x : X) → Spells form content x → ⊥)
  pub misread_only : (content : List ℕ) → Opens key bytes content → ((x : X) → Spells form content x → ⊥) → IsRefusal result Misread

-- a sealed record is the envelope of the one spelling of the value, and opens to it
pub record IsSealed {X : Type 0} (form : Form X) (key : List ℕ) (x : X) (bytes : List ℕ) : Type 0 where
  pub envelope : bytes ≡ sealed key (form.text x)
  pub opens : OpensTo form key bytes x
