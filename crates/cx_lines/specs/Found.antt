-- What words are found to be where a form has these places and its lines these values.
use Rattle.std.specs.Prelude.{ℕ, ◌≡◌, false, List, Option, Some, None}
use Rattle.cx_words.specs.declared.known.Known.{Known}
use Rattle.cx_words.specs.declared.places.WordPlace.{WordPlace}
use Rattle.cx_words.specs.lines.Places.{is_whole}
use Rattle.cx_words.specs.lines.Values.{Item, SpellsItems}

-- a family of lines: the places of each form, where these words stand there, the form of a line and its values
pub record Family (F L : Type 0) : Type 0 where
  pub places : F → List (List ℕ) → List WordPlace
  pub form : L → F
  pub items : L → List Item

-- the words are a line of this form: they spell its values one by one
abbrev pub SpellsIn : {F L : Type 0} → Family F L → Known → List (List ℕ) → F → List (List ℕ) → L → Type 0
SpellsIn family known before form words line =
    (form ≡ family.form line) × SpellsItems known before (family.items line) words

-- what the words are found to be: the line that they spell; none where one of them isn't good at its place
abbrev pub IsFound : {F L : Type 0} → Family F L → Known → List (List ℕ) → F → List (List ℕ) → Option L → Type 0
IsFound family known before form words None = is_whole known before (family.places form words) words ≡ false
IsFound family known before form words (Some line) = SpellsIn family known before form words line
