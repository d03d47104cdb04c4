-- What was tried to open, and what is spelled.
use Rattle.std.proofs.Common.{◌≡◌, ℕ, ◌+◌, List, [], length, ◌∙◌, Option, Some, None, Result, Ok, Err, refl, sym, ap}
use Rattle.cx_enc.specs.Layouts.{Layout}
use Rattle.cx_enc.specs.Forms.{Spot, Form}
use Rattle.cx_enc.specs.Whole.{start, Spells}
use Rattle.cx_enc.specs.declared.faults.ReadFault.{ReadFault}
use Rattle.cx_enc.proofs.Wholes.{read_again}
use Rattle.cx_sealed.specs.Sealing.{OpensTo, IsOpened}
use Rattle.cx_sealed.specs.declared.refusals.SealedRefusal.{SealedRefusal}
use Rattle.cx_sealed.specs.declared.refusals.SealedRefusal.TheVariants.{Unopened, Misread, OutOfMemory}
use Rattle.cx_login.specs.Opening.{IsShut, IsTried}

-- what opened is the one record
pub tried_ok : {X : Type 0} (form : Form X) (key bytes : List ℕ) (x : X) → IsOpened form key bytes (Ok x) → IsTried form key bytes (Some x)
tried_ok {X} form key bytes x opened = record {
  found = opened.found;
  only = λ y to. (let same : x ≡ y = opened.only y to in ap (λ (z : X). Some z) same);
}

differ_unopened : (e : SealedRefusal) → e ≡ Unopened → e ≡ OutOfMemory → ⊥
differ_unopened e a b = cc

differ_misread : (e : SealedRefusal) → e ≡ Misread → e ≡ OutOfMemory → ⊥
differ_misread e a b = cc

-- what is refused, and not for want of memory, opens to none
pub tried_unopened : {X : Type 0} (form : Form X) (key bytes : List ℕ) (e : SealedRefusal) → e ≡ Unopened → IsOpened form key bytes (Err e) → IsTried form key bytes None
tried_unopened form key bytes e is opened = record { found = tt; only = λ x to. absurd (differ_unopened e is (opened.only x to)) }

pub tried_misread : {X : Type 0} (form : Form X) (key bytes : List ℕ) (e : SealedRefusal) → e ≡ Misread → IsOpened form key bytes (Err e) → IsTried form key bytes None
tried_misread form key bytes e is opened = record { found = tt; only = λ x to. absurd (differ_misread e is (opened.only x to)) }

pub none_is_none : {X : Type 0} (x : X) → None ≡ Some x → ⊥
none_is_none x e = cc

some_is : {X : Type 0} (x y : X) → Some x ≡ Some y → x ≡ y
some_is x y e = cc

-- where none is opened, the bytes are shut
pub shut_of : {X : Type 0} (form : Form X) (key bytes : List ℕ) → IsTried form key bytes None → IsShut form key bytes
shut_of form key bytes tried x to = none_is_none x (tried.only x to)

-- the record that was opened is the one to which the bytes open
pub tried_is : {X : Type 0} (form : Form X) (key bytes : List ℕ) (x y : X) → IsTried form key bytes (Some x) → OpensTo form key bytes y → x ≡ y
tried_is form key bytes x y tried to = some_is x y (tried.only y to)

-- one record was tried
pub tried_one : {X : Type 0} (form : Form X) (key bytes : List ℕ) (first second : Option X) → IsTried form key bytes first → IsTried form key bytes second → first ≡ second
tried_one form key bytes (Some x) second tried told = sym (told.only x tried.found)
tried_one form key bytes None (Some y) tried told = tried.only y told.found
tried_one form key bytes None None tried told = refl

-- ---- bytes spell one value

abbrev made : {X : Type 0} → X × Spot → Result (X × Spot) ReadFault
made p = Ok p

pair_is : {X : Type 0} (p q : X × Spot) → made p ≡ made q → p ≡ q
pair_is p q e = cc

first_is : {X : Type 0} (r : Result (X × Spot) ReadFault) (p q : X × Spot) → r ≡ made p → r ≡ made q → p.0 ≡ q.0
first_is {X} r p q a b = ap (λ (s : X × Spot). s.0) (pair_is p q (sym a ∙ b))

pub spells_one : {X : Type 0} (layout : Layout X) (bytes : List ℕ) (x y : X) → Spells layout.form bytes x → Spells layout.form bytes y → x ≡ y
spells_one {X} layout bytes x y first second =
    let p : X × Spot = (x, record { place = 0 + length (layout.form.text x); left = [] }) in
    let q : X × Spot = (y, record { place = 0 + length (layout.form.text y); left = [] }) in
    first_is (layout.form.at (start bytes)) p q (read_again layout.form layout.lawful bytes x first) (read_again layout.form layout.lawful bytes y second)
