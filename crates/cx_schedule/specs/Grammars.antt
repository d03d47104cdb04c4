-- What the lines of a file say, whatever its lines are, and the first of them that says nothing.
use Rattle.std.specs.Prelude.{ℕ, ◌+◌, ◌≡◌, ◌⊎◌, Bool, true, false, List, [], ◌∷◌, ◌++◌, take, codes, Option, Some}
use Rattle.std.specs.Str.{bytes_eq}
use Rattle.cx_words.specs.Cutting.{lines_of, words_of, is_skipped, IsShort}
use Rattle.cx_lines.specs.declared.sight.BadWord.{BadWord}
use Rattle.cx_schedule.specs.declared.refusals.ScheduleRefusal.{ScheduleRefusal}
use Rattle.cx_schedule.specs.declared.refusals.ScheduleRefusal.TheVariants.{TooLong, BadLine, OutOfMemory}

-- whether quotation marks group words: in an entity line alone
abbrev pub groups : List ℕ → Bool
groups line = bytes_eq (take 7 line) (codes "entity ")

-- the words of a line
abbrev pub line_words : List ℕ → List (List ℕ)
line_words line = words_of (groups line) line

-- Where `spells earlier line words` says that the words spell the line behind these entries, and `entry number line` is what stands
-- for the line of this number in the file:
module _ {L E : Type 0} (spells : List E → L → List (List ℕ) → Type 0) (entry : ℕ → L → E) where
  -- behind this line of the file, which has this number, these are the entries: the earlier ones where it is skipped, and else
  -- those with the one of the line that it spells
  abbrev pub AddsLine : ℕ → List E → List ℕ → List E → Type 0
  AddsLine number earlier line now =
      ((is_skipped line ≡ true) × (now ≡ earlier))
      ⊎ ((is_skipped line ≡ false) × (x : L) × spells earlier x (line_words line) × (now ≡ earlier ++ entry number x ∷ []))

  -- behind all of these lines, of which the first has this number, these are the entries
  abbrev pub SaysLines : ℕ → List E → List (List ℕ) → List E → Type 0
  SaysLines number earlier [] said = said ≡ earlier
  SaysLines number earlier (line ∷ lines) said =
      (now : List E) × AddsLine number earlier line now × SaysLines (number + 1) now lines said

  -- the line n is the first of these, of which the first has this number, that adds nothing, and this holds of its words
  abbrev pub IsFirstLine : (List E → List (List ℕ) → Type 0) → ℕ → List E → List (List ℕ) → ℕ → Type 0
  IsFirstLine P number earlier [] n = ⊥
  IsFirstLine P number earlier (line ∷ lines) n =
      ((n ≡ number) × (is_skipped line ≡ false) × P earlier (line_words line))
      ⊎ ((now : List E) × AddsLine number earlier line now × IsFirstLine P (number + 1) now lines n)

  -- the words are outside of the grammar: behind these entries they spell no line
  abbrev pub SpellsNothing : List E → List (List ℕ) → Type 0
  SpellsNothing earlier words = (x : L) → spells earlier x words → ⊥

  -- where this is the first fault of words behind entries:
  module _ (bad_of : List E → List (List ℕ) → Option BadWord) where
    -- the words are outside of the grammar for this fault
    abbrev pub SpellsNothingFor : BadWord → List E → List (List ℕ) → Type 0
    SpellsNothingFor bad earlier words = SpellsNothing earlier words × (bad_of earlier words ≡ Some bad)

    -- the line n is the first of these outside of the grammar, for this fault
    abbrev pub IsFirstFaulty : ℕ → List E → List (List ℕ) → ℕ → BadWord → Type 0
    IsFirstFaulty number earlier lines n bad = IsFirstLine (SpellsNothingFor bad) number earlier lines n

    -- why the bytes of a file are refused
    abbrev pub IsFileCause : List ℕ → ScheduleRefusal → Type 0
    IsFileCause bytes TooLong = IsShort bytes → ⊥
    IsFileCause bytes (BadLine n bad) = IsShort bytes × IsFirstFaulty 1 [] (lines_of bytes) n bad
    IsFileCause bytes OutOfMemory = Unit {0}

    -- why they are refused where memory isn't wanting
    abbrev pub IsFileReason : List ℕ → ScheduleRefusal → Type 0
    IsFileReason bytes TooLong = IsFileCause bytes TooLong
    IsFileReason bytes (BadLine n bad) = IsFileCause bytes (BadLine n bad)
    IsFileReason bytes OutOfMemory = ⊥
