-- Texts and lists that are joined piece by piece.
use Rattle.std.specs.Prelude.{List, ◌++◌}

-- `++` grouped to the right, as a format writes its pieces one behind the other
abbrev pub ◌<>◌ : {X : Type 0} → List X → List X → List X
xs <> ys = xs ++ ys

infixr 5 ◌<>◌
