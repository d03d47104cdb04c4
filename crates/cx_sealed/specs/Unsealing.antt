-- What sealed bytes open to, as a function: nothing; or a content, and the record that it spells, where it spells one.
use Rattle.std.specs.Prelude.{ℕ, List, [], ◌∷◌, Option, Some, None, Result, Ok, Err}
use Rattle.cx_cbc.specs.Opened.{opened}
use Rattle.cx_enc.specs.declared.faults.ReadFault.{ReadFault}
use Rattle.cx_enc.specs.Forms.{Spot, Form}
use Rattle.cx_enc.specs.Whole.{start}
use Rattle.cx_sealed.specs.declared.unsealed.Unsealed.{Unsealed}

-- a value behind which no bytes are left
abbrev pub unless_left : {X : Type 0} → X → List ℕ → Option X
unless_left x [] = Some x
unless_left x (_ ∷ _) = None

abbrev pub read_to_end : {X : Type 0} → Result (X × Spot) ReadFault → Option X
read_to_end (Ok (x, next)) = unless_left x next.left
read_to_end (Err fault) = None

-- the record that a content spells, if it spells one
abbrev pub spelled_by : {X : Type 0} → Form X → List ℕ → Option X
spelled_by form content = read_to_end (form.at (start content))

abbrev pub unsealed_as : {X : Type 0} → Form X → Option (List ℕ) → Option (Unsealed X)
unsealed_as form None = None
unsealed_as form (Some content) = Some (record { content = content; value = spelled_by form content })

abbrev pub unsealed : {X : Type 0} → Form X → List ℕ → List ℕ → Option (Unsealed X)
unsealed form key bytes = unsealed_as form (opened key bytes)
