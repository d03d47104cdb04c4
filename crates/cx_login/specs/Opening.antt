-- What comes of opening a sealed record.
use Rattle.std.specs.Prelude.{ℕ, ◌≡◌, ◌==◌, List, Option, Some, IfSome, find}
use Rattle.std.specs.Option.{option_map}
use Rattle.cx_enc.specs.Forms.{Form}
use Rattle.cx_sealed.specs.cx_rotate.specs.declared.generations.Generation.{Generation}
use Rattle.cx_sealed.specs.Sealing.{OpensTo}

-- the bytes open to no spelling of the record
abbrev pub IsShut : {X : Type 0} → Form X → List ℕ → List ℕ → Type 0
IsShut {X} form key bytes = (x : X) → OpensTo form key bytes x → ⊥

-- this is the one record that the bytes open to, or none where they open to no spelling of one
pub record IsTried {X : Type 0} (form : Form X) (key bytes : List ℕ) (opened : Option X) : Type 0 where
  pub found : IfSome opened (OpensTo form key bytes)
  pub only : (x : X) → OpensTo form key bytes x → opened ≡ Some x

-- the key of the generation with this id
abbrev pub generation_key : List Generation → ℕ → Option (List ℕ)
generation_key generations id = option_map (λ g. g.key) (find (λ g. g.id == id) generations)
