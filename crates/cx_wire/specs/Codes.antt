-- Forms of a body that is a blob, and in it a code of two bytes and what belongs to that code.
use Rattle.std.specs.Prelude.{ℕ, ◌==◌, ◌+◌, ◌^◌, ◌<◌, ◌||◌, ◌⊎◌, Bool, true, false, List, [], ◌∷◌, ◌++◌, length, Option, Some, None, Result, Ok, Err, if◌then◌else◌}
use Rattle.std.proofs.Common.{inl, inr}
use Rattle.std.specs.Int.{w16}
use Rattle.cx_enc.specs.declared.faults.ReadFault.{ReadFault}
use Rattle.cx_enc.specs.declared.faults.ReadFault.TheVariants.{BadField}
use Rattle.cx_enc.specs.Forms.{Spot, Form, ◌>>=◌, little, u16_form, blob_form}
use Rattle.cx_enc.specs.Whole.{start}

-- the codes of tickets and of generations ("detailed cephx protocol": CEPHX_GET_PRINCIPAL_SESSION_KEY, CEPHX_GET_ROTATING_KEY)
abbrev pub tickets_code : ℕ
tickets_code = 0x0200

abbrev pub rotating_code : ℕ
rotating_code = 0x0400

-- by the first code one form, by the second another; a third is a bad field
abbrev pub chosen : {A B : Type 0} → Bool → Bool → ℕ → Result (A × Spot) ReadFault → Result (B × Spot) ReadFault → Result ((A ⊎ B) × Spot) ReadFault
chosen true second place a b = a >>= λ x. Ok (inl x.0, x.1)
chosen false true place a b = b >>= λ x. Ok (inr x.0, x.1)
chosen false false place a b = Err (BadField place)

abbrev pub coded_text : {A B : Type 0} → (A → List ℕ) → (B → List ℕ) → A ⊎ B → List ℕ
coded_text f g (inl a) = little w16 tickets_code ++ f a
coded_text f g (inr b) = little w16 rotating_code ++ g b

abbrev pub CodedFits : {A B : Type 0} → (A → Type 0) → (B → Type 0) → A ⊎ B → Type 0
CodedFits f g (inl a) = f a
CodedFits f g (inr b) = g b

abbrev pub coded_form : {A B : Type 0} → Form A → Form B → Form (A ⊎ B)
coded_form f g = record {
  at = λ s. u16_form.at s >>= λ code. chosen (code.0 == tickets_code) (code.0 == rotating_code) s.place (f.at code.1) (g.at code.1);
  text = coded_text f.text g.text;
  Fits = CodedFits f.Fits g.Fits;
}

-- what follows a value in a blob: nothing, or its place is that of bytes that are left over
abbrev pub ended : {X : Type 0} → X → ℕ → List ℕ → Spot → Result (X × Spot) ReadFault
ended x place [] behind = Ok (x, behind)
ended x place (_ ∷ _) behind = Err (BadField place)

-- a blob that holds one value, to its end; the places in it go on from that of the blob
abbrev pub inside_form : {X : Type 0} → Form X → Form X
inside_form f = record {
  at = λ s. blob_form.at s >>= λ blob. f.at (record { place = s.place + 4; left = blob.0 }) >>= λ x. ended x.0 x.1.place x.1.left blob.1;
  text = λ x. blob_form.text (f.text x);
  Fits = λ x. f.Fits x × (length (f.text x) < 2 ^ 32);
}

-- the code of a body, where its blob is whole, its first two bytes are there, and they hold neither of the two codes
abbrev pub other_of : Result (ℕ × Spot) ReadFault → Option ℕ
other_of (Ok code) = if (code.0 == tickets_code) || (code.0 == rotating_code) then None else Some code.0
other_of (Err _) = None

abbrev pub other_in : Result (List ℕ × Spot) ReadFault → Option ℕ
other_in (Ok blob) = other_of (u16_form.at (start blob.0))
other_in (Err _) = None

abbrev pub other_code : List ℕ → Option ℕ
other_code bytes = other_in (blob_form.at (start bytes))
