-- Lists that grow item by item, each of which is judged by those before it, the newest of these first.
use Rattle.std.specs.Prelude.{List, [], ◌∷◌, ◌⊎◌}

-- P holds of one of the items
abbrev pub SomeOf : {X : Type 0} → (X → Type 0) → List X → Type 0
SomeOf P [] = ⊥
SomeOf P (x ∷ xs) = P x ⊎ SomeOf P xs

-- P holds of each of these items with all before it, where they come behind the earlier ones
abbrev pub EachOnto : {X : Type 0} → (List X → X → Type 0) → List X → List X → Type 0
EachOnto P earlier [] = Unit {0}
EachOnto P earlier (x ∷ xs) = P earlier x × EachOnto P (x ∷ earlier) xs
