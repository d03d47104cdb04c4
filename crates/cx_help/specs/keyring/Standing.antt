-- Where in a keyring something stands: what a line repeats, and what was meant as the key of a section.
use Rattle.std.specs.Prelude.{ℕ, ◌+◌, ◌==◌, Bool, ◌||◌, nat_le, List, [], ◌∷◌, Option, Some, None, if◌then◌else◌}
use Rattle.std.specs.Str.{bytes_eq}
use Rattle.cx_keyring.specs.Lines.{is_blank}
use Rattle.cx_help.specs.keyring.Settings.{opens_section, stands_for_key}

-- what a line sets: its bytes up to an equals sign, without blanks and CRs (13)
abbrev pub is_gap : ℕ → Bool
is_gap b = is_blank b || (b == 13)

abbrev pub label_of : List ℕ → List ℕ
label_of [] = []
label_of (b ∷ bs) = if b == 61 then [] else if is_gap b then label_of bs else b ∷ label_of bs

-- the number of this line, where it sets that, or else of the one found so far
abbrev pub or_found : List ℕ → ℕ → ℕ → List ℕ → ℕ
or_found label number found line = if bytes_eq (label_of line) label then number else found

-- the number of the last line that sets that before the line of the number `stop`, where the first of these lines has the number
-- `number`; what was found before these, where none does
abbrev pub stood_from : List ℕ → ℕ → ℕ → ℕ → List (List ℕ) → ℕ
stood_from label stop number found [] = found
stood_from label stop number found (line ∷ lines) =
    if nat_le stop number then found else stood_from label stop (number + 1) (or_found label number found line) lines

-- the number of the first line behind that of the number `at` that is meant for a key, before another section begins
abbrev pub key_like_from : ℕ → ℕ → List (List ℕ) → Option ℕ
key_like_from at number [] = None
key_like_from at number (line ∷ lines) =
    if nat_le number at then key_like_from at (number + 1) lines
    else if opens_section line then None
    else if stands_for_key line then Some number
    else key_like_from at (number + 1) lines
