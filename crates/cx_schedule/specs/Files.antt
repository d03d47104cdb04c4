-- A schedule as a file: its lines in order, and the first of them that is outside of the grammar.
use Rattle.std.specs.Prelude.{ℕ, ◌≡◌, ◌⊎◌, false, List, [], Option, Result, Ok, Err}
use Rattle.cx_words.specs.Cutting.{lines_of, is_skipped}
use Rattle.cx_lines.specs.declared.lines.Line.{Line}
use Rattle.cx_lines.specs.declared.lines.Numbered.{Numbered}
use Rattle.cx_lines.specs.declared.refusals.LineRefusal.{LineRefusal}
use Rattle.cx_lines.specs.declared.sight.BadWord.{BadWord}
use Rattle.cx_lines.specs.Knowing.{known_of}
use Rattle.cx_lines.specs.Lines.{Spells}
use Rattle.cx_lines.specs.Refusals.{IsLineCause}
use Rattle.cx_lines.specs.Sights.{bad_word_of}
use Rattle.cx_schedule.specs.declared.refusals.ScheduleRefusal.{ScheduleRefusal}
use Rattle.cx_schedule.specs.declared.refusals.ScheduleRefusal.TheVariants.{TooLong, BadLine, OutOfMemory}
use Rattle.cx_schedule.specs.Grammars.{line_words, AddsLine, IsFileCause, IsFileReason, IsFirstFaulty, IsFirstLine, SaysLines, SpellsNothing}

-- the line of this number in the file
abbrev pub numbered : ℕ → Line → Numbered
numbered number line = record { number = number; line = line }

-- the words spell the line behind these lines of a schedule
abbrev pub SpellsBehind : List Numbered → Line → List (List ℕ) → Type 0
SpellsBehind earlier line words = Spells (known_of earlier) line words

-- behind this line of the file, which has this number, these are the lines of the schedule
abbrev pub Adds : ℕ → List Numbered → List ℕ → List Numbered → Type 0
Adds number earlier line now = AddsLine SpellsBehind numbered number earlier line now

-- why a line of the file is refused behind these lines; want of memory is free
abbrev pub IsFileLineCause : List Numbered → List ℕ → LineRefusal → Type 0
IsFileLineCause earlier line refusal = (is_skipped line ≡ false) × IsLineCause (known_of earlier) (line_words line) refusal

-- behind all of these lines, of which the first has this number, the schedule is this one
abbrev pub Said : ℕ → List Numbered → List (List ℕ) → List Numbered → Type 0
Said number earlier lines script = SaysLines SpellsBehind numbered number earlier lines script

-- the bytes are those of this schedule
abbrev pub Lines : List ℕ → List Numbered → Type 0
Lines bytes script = Said 1 [] (lines_of bytes) script

-- the first fault of words behind these lines, with what stands there
abbrev pub bad_behind : List Numbered → List (List ℕ) → Option BadWord
bad_behind earlier words = bad_word_of (known_of earlier) words

-- the line n is the first of these, of which the first has this number, that spells no line of a schedule
abbrev pub IsFirstOutside : ℕ → List Numbered → List (List ℕ) → ℕ → Type 0
IsFirstOutside number earlier lines n = IsFirstLine SpellsBehind numbered (SpellsNothing SpellsBehind numbered) number earlier lines n

-- the same, and this is the first of its faults, with its word
abbrev pub IsFirstBad : ℕ → List Numbered → List (List ℕ) → ℕ → BadWord → Type 0
IsFirstBad number earlier lines n bad = IsFirstFaulty SpellsBehind numbered bad_behind number earlier lines n bad

-- why the bytes of a schedule are refused
abbrev pub IsScheduleCause : List ℕ → ScheduleRefusal → Type 0
IsScheduleCause bytes refusal = IsFileCause SpellsBehind numbered bad_behind bytes refusal

-- why the bytes of a schedule are refused where memory isn't wanting
abbrev pub IsReason : List ℕ → ScheduleRefusal → Type 0
IsReason bytes refusal = IsFileReason SpellsBehind numbered bad_behind bytes refusal

-- the answer is this refusal, or want of memory
abbrev pub Refuses : {X : Type 0} → Result X ScheduleRefusal → ScheduleRefusal → Type 0
Refuses (Ok x) why = ⊥
Refuses (Err got) why = (got ≡ OutOfMemory) ⊎ (got ≡ why)

-- the refusal names this line, or is want of memory
abbrev pub IsRefusalAt : ℕ → ScheduleRefusal → Type 0
IsRefusalAt n TooLong = ⊥
IsRefusalAt n (BadLine line bad) = line ≡ n
IsRefusalAt n OutOfMemory = Unit {0}

-- the answer is such a refusal
abbrev pub RefusesAt : {X : Type 0} → Result X ScheduleRefusal → ℕ → Type 0
RefusesAt (Ok x) n = ⊥
RefusesAt (Err got) n = IsRefusalAt n got
