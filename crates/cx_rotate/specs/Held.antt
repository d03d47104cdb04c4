-- How the generations of a service are held.
use Rattle.std.specs.Prelude.{◌≡◌, ◌+◌, List, [], ◌∷◌, Option, Some, None}
use Rattle.cx_rotate.specs.declared.generations.Generation.{Generation}
use Rattle.cx_rotate.specs.declared.generations.Three.{Three}

-- the generations in the order of their ids
abbrev pub listed : Option Three → List Generation
listed None = []
listed (Some t) = t.previous ∷ t.current ∷ t.next ∷ []

-- none, or three whose ids rise by one
abbrev pub IsRising : List Generation → Type 0
IsRising [] = Unit {0}
IsRising (a ∷ b ∷ c ∷ []) = (b.id ≡ a.id + 1) × (c.id ≡ b.id + 1)
IsRising _ = ⊥

-- what is held, from the list
abbrev pub held_of : List Generation → Option Three
held_of (a ∷ b ∷ c ∷ []) = Some (record { previous = a; current = b; next = c })
held_of _ = None

-- three whose ids don't rise by one
abbrev pub HasGap : List Generation → Type 0
HasGap all = IsRising all → ⊥
