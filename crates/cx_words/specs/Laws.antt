-- The law of a kind of words.
use Rattle.std.specs.Prelude.{ℕ, ◌≡◌, ◌↔◌, List, Option, Some}

-- the words that are read as a value are those that spell it
abbrev pub IsReadExactly : {X : Type 0} → (List ℕ → Option X) → (List ℕ → X → Type 0) → Type 0
IsReadExactly {X} read spells = (word : List ℕ) (x : X) → (read word ≡ Some x) ↔ spells word x
