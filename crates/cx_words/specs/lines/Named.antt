-- Names, and their texts.
use Rattle.std.specs.Prelude.{ℕ, ◌≡◌, Bool, ◌||◌, IsTrue, List, String}
use Rattle.std.specs.List.{list_any}
use Rattle.std.specs.Str.{bytes_eq}
use Rattle.std.specs.BTreeSet.{BTreeSet, contains_text}
use Rattle.std.specs.declared.alloc.Global.{Global}
use Rattle.cx_base.specs.Names.{Name, is_id, name_text, same_name}

-- whether the name is one of these
abbrev pub is_among : List Name → Name → Bool
is_among names name = list_any (λ other. same_name other name) names

-- a name that can be written
abbrev pub is_name : Name → Bool
is_name name = is_id name.kind name.id

-- the texts are those of the names
pub record HasTexts (names : List Name) (texts : BTreeSet (String Global)) : Type 0 where
  pub named : (n : Name) → IsTrue (is_name n) → contains_text texts (name_text n) ≡ is_among names n

-- the text is among the texts now, and the others are those that were
abbrev pub Notes : BTreeSet (String Global) → BTreeSet (String Global) → List ℕ → Type 0
Notes old new text = (bytes : List ℕ) → contains_text new bytes ≡ (bytes_eq text bytes || contains_text old bytes)
