-- The script of a node as a file.
use Rattle.std.specs.Prelude.{ℕ, ◌≡◌, false, List, [], Option}
use Rattle.cx_words.specs.Cutting.{lines_of, is_skipped}
use Rattle.cx_lines.specs.declared.refusals.LineRefusal.{LineRefusal}
use Rattle.cx_lines.specs.declared.sight.BadWord.{BadWord}
use Rattle.cx_schedule.specs.declared.node_lines.NodeLine.{NodeLine}
use Rattle.cx_schedule.specs.declared.node_names.NodeNames.{NodeNames}
use Rattle.cx_schedule.specs.declared.refusals.ScheduleRefusal.{ScheduleRefusal}
use Rattle.cx_schedule.specs.Grammars.{line_words, AddsLine, IsFileCause, IsFileReason, IsFirstLine, SaysLines, SpellsNothing}
use Rattle.cx_schedule.specs.NodeLines.{bad_in_script, IsNodeLineCause, SpellsNodeLine}

-- a line stands for itself, whatever its number
abbrev pub itself : ℕ → NodeLine → NodeLine
itself number line = line

-- of a node with these names:
module _ (names : Option NodeNames) where
  -- the words spell the line, whatever stands above it
  abbrev pub SpellsAnywhere : List NodeLine → NodeLine → List (List ℕ) → Type 0
  SpellsAnywhere earlier line words = SpellsNodeLine names line words

  -- the first fault of words, with what stands there
  abbrev pub bad_anywhere : List NodeLine → List (List ℕ) → Option BadWord
  bad_anywhere earlier words = bad_in_script names words

  -- behind this line of the file, which has this number, these are the lines of the script
  abbrev pub AddsToScript : ℕ → List NodeLine → List ℕ → List NodeLine → Type 0
  AddsToScript number earlier line now = AddsLine SpellsAnywhere itself number earlier line now

  -- why a line of the file is refused
  abbrev pub IsScriptLineCause : List ℕ → LineRefusal → Type 0
  IsScriptLineCause line refusal = (is_skipped line ≡ false) × IsNodeLineCause names (line_words line) refusal

  -- the bytes are those of this script
  abbrev pub NodeLines : List ℕ → List NodeLine → Type 0
  NodeLines bytes script = SaysLines SpellsAnywhere itself 1 [] (lines_of bytes) script

  -- the line n is the first that spells no line of the script
  abbrev pub IsFirstOutsideScript : List (List ℕ) → ℕ → Type 0
  IsFirstOutsideScript lines n = IsFirstLine SpellsAnywhere itself (SpellsNothing SpellsAnywhere itself) 1 [] lines n

  -- why the bytes of a script are refused
  abbrev pub IsScriptCause : List ℕ → ScheduleRefusal → Type 0
  IsScriptCause bytes refusal = IsFileCause SpellsAnywhere itself bad_anywhere bytes refusal

  -- why they are refused where memory isn't wanting
  abbrev pub IsScriptReason : List ℕ → ScheduleRefusal → Type 0
  IsScriptReason bytes refusal = IsFileReason SpellsAnywhere itself bad_anywhere bytes refusal
