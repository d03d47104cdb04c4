-- What stands where a line is wrong.
use Rattle.std.specs.Prelude.{ℕ, ◌-◌, nat_lt, List, [], ◌∷◌, slice_get, Option, Some, None, if◌then◌else◌}
use Rattle.std.specs.Option.{option_map}
use Rattle.cx_words.specs.declared.faults.FaultAt.{FaultAt}
use Rattle.cx_words.specs.declared.known.Known.{Known}
use Rattle.cx_words.specs.declared.places.WordPlace.{WordPlace}
use Rattle.cx_words.specs.lines.Sights.{first_hint, shown_of, word_at}
use Rattle.cx_lines.specs.declared.lines.Head.{Head}
use Rattle.cx_lines.specs.declared.sight.BadWord.{BadWord}
use Rattle.cx_lines.specs.Lines.{fault_of, head_of, places}

-- the form that the first of these words begins
abbrev pub form_in : List (List ℕ) → Option Head
form_in [] = None
form_in (word ∷ words) = head_of word

-- the place of the word of this number among those behind the first word, which has none itself
abbrev pub place_at : List WordPlace → ℕ → Option WordPlace
place_at places number = if nat_lt number 2 then None else slice_get places (number - 2)

-- what the place of the word of this number takes
abbrev pub takes_at : Option Head → List (List ℕ) → ℕ → Option WordPlace
takes_at None words number = None
takes_at (Some form) [] number = None
takes_at (Some form) (word ∷ words) number = place_at (places form words) number

-- what stands where these words have this fault
unfoldable pub described : List (List ℕ) → FaultAt → BadWord
described words fault = record {
  fault = fault;
  form = form_in words;
  takes = takes_at (form_in words) words fault.word;
  shown = shown_of (word_at words fault.word);
  hint = first_hint (word_at words fault.word ∷ words);
}

-- the first fault of a line's words, and what stands there
abbrev pub bad_word_of : Known → List (List ℕ) → Option BadWord
bad_word_of known words = option_map (described words) (fault_of known words)
