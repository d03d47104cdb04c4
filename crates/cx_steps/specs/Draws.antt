-- What was drawn: keys, whom they are for, and which draws are the same.
use Rattle.std.specs.Prelude.{ℕ, ◌≡◌, List, Option, Some, None, take}
use Rattle.cx_base.specs.Names.{Name}
use Rattle.cx_steps.specs.declared.seals.DrawMark.{DrawMark}
use Rattle.cx_steps.specs.declared.seals.DrawMark.TheVariants as draw

-- the key that was drawn: of a connection secret its first 16 bytes
abbrev pub key_of : DrawMark → Option (List ℕ)
key_of (draw.Principal secret whose) = Some secret
key_of (draw.Connection secret whose) = Some (take 16 secret)
key_of (draw.Session key whose) = Some key
key_of (draw.Rotation key) = Some key
key_of _ = None

-- the entity whose key it is
abbrev pub for_whom : DrawMark → Option Name
for_whom (draw.Principal secret whose) = Some whose
for_whom (draw.Connection secret whose) = Some whose
for_whom (draw.Session key whose) = Some whose
for_whom _ = None

-- both are keys, and equal
abbrev pub IsSameKey : Option (List ℕ) → Option (List ℕ) → Type 0
IsSameKey (Some a) (Some b) = a ≡ b
IsSameKey _ _ = ⊥

-- two draws that are the same: challenges, nonces or cookies of one value, or keys of one value, whatever they are for
abbrev pub Repeats : DrawMark → DrawMark → Type 0
Repeats (draw.Challenge a) (draw.Challenge b) = a ≡ b
Repeats (draw.Nonce a) (draw.Nonce b) = a ≡ b
Repeats (draw.Cookie a) (draw.Cookie b) = a ≡ b
Repeats a b = IsSameKey (key_of a) (key_of b)
