-- Why words are no line: the first fault of a fixed list that they have, and the word that has it.
use Rattle.std.specs.Prelude.{ℕ, ◌+◌, Bool, true, false, nat_lt, List, [], ◌∷◌, ◌++◌, length, Option, Some, None, if◌then◌else◌}
use Rattle.cx_words.specs.declared.faults.LineFault.{LineFault}
use Rattle.cx_words.specs.declared.faults.LineFault.TheVariants.{UnknownWord, Missing, Extra, BadNumber, BadName, BadText, UnknownNode, Repeated, Order}
use Rattle.cx_words.specs.declared.faults.FaultAt.{FaultAt}
use Rattle.cx_words.specs.declared.known.Known.{Known}
use Rattle.cx_words.specs.declared.places.WordPlace.{WordPlace}
use Rattle.cx_words.specs.lines.Places.{word_fault}

-- whether two faults are one
abbrev pub same_fault : LineFault → LineFault → Bool
same_fault UnknownWord UnknownWord = true
same_fault Missing Missing = true
same_fault Extra Extra = true
same_fault BadNumber BadNumber = true
same_fault BadName BadName = true
same_fault BadText BadText = true
same_fault UnknownNode UnknownNode = true
same_fault Repeated Repeated = true
same_fault Order Order = true
same_fault _ _ = false

-- whether this is the fault of a word
abbrev pub is_fault : LineFault → Option LineFault → Bool
is_fault why None = false
is_fault why (Some found) = same_fault why found

-- the number of the first word, from the left, that has this fault at its place; the words before it are those behind the
-- first word of the line, which is number 1
abbrev pub first_with : Known → LineFault → List (List ℕ) → List WordPlace → List (List ℕ) → Option ℕ
first_with known why before [] words = None
first_with known why before (place ∷ places) [] = None
first_with known why before (place ∷ places) (word ∷ words) =
    if is_fault why (word_fault known before place word) then Some (length before + 2)
    else first_with known why (before ++ word ∷ []) places words

-- how many words the line must have at least, where it has fewer
abbrev pub missing : ℕ → ℕ → Option ℕ
missing wanted found = if nat_lt found wanted then Some (wanted + 1) else None

-- the number of the first word that is too many
abbrev pub extra : ℕ → ℕ → Option ℕ
extra wanted found = if nat_lt wanted found then Some (wanted + 2) else None

-- the first word, where this holds of the whole line
abbrev pub at_first : Bool → Option ℕ
at_first true = Some 1
at_first false = None

-- the one, or else the other
abbrev pub or_number : Option ℕ → Option ℕ → Option ℕ
or_number None other = other
or_number (Some n) other = Some n

-- the number of the first word that has this fault, where these places stand behind the first word of the line, and a line of
-- its form may stand once and stands already, or is too late
abbrev pub number_with : Known → Bool → Bool → List WordPlace → List (List ℕ) → LineFault → Option ℕ
number_with known spent late places words UnknownWord = None
number_with known spent late places words Missing = missing (length places) (length words)
number_with known spent late places words Extra = extra (length places) (length words)
number_with known spent late places words BadNumber = first_with known BadNumber [] places words
number_with known spent late places words BadName = first_with known BadName [] places words
number_with known spent late places words BadText = first_with known BadText [] places words
number_with known spent late places words UnknownNode = first_with known UnknownNode [] places words
number_with known spent late places words Repeated = or_number (at_first spent) (first_with known Repeated [] places words)
number_with known spent late places words Order = at_first late

-- a fault at a word
abbrev pub fault_at : LineFault → ℕ → FaultAt
fault_at why number = record { why = why; word = number }

-- the fault at this word, or else the other one
abbrev pub or_fault : LineFault → Option ℕ → Option FaultAt → Option FaultAt
or_fault why None other = other
or_fault why (Some number) other = Some (fault_at why number)

-- the first of these faults that a word has
abbrev pub first_fault : (LineFault → Option ℕ) → List LineFault → Option FaultAt
first_fault number [] = None
first_fault number (why ∷ whys) = or_fault why (number why) (first_fault number whys)

-- the faults, in the order in which they go before one another
abbrev pub faults : List LineFault
faults = UnknownWord ∷ Missing ∷ Extra ∷ BadNumber ∷ BadName ∷ BadText ∷ UnknownNode ∷ Repeated ∷ Order ∷ []

-- the first fault of these words at these places
abbrev pub fault_among : Known → Bool → Bool → List WordPlace → List (List ℕ) → Option FaultAt
fault_among known spent late places words = first_fault (number_with known spent late places words) faults
