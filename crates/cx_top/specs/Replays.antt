-- What a source gave, and what a replay makes of it.
use Rattle.std.specs.Prelude.{ℕ, ◌≡◌, Bool, List, [], ◌++◌, Option, Some, None, is_some}
use Rattle.cx_desk.specs.Handlers.{Handlers}
use Rattle.cx_lines.specs.declared.lines.Numbered.{Numbered}
use Rattle.cx_schedule.specs.Files.{Lines}
use Rattle.cx_words.specs.Cutting.{IsShort}
use Rattle.cx_journal.specs.declared.entries.Entry.{Entry}
use Rattle.cx_journal.specs.declared.premises.Broken.{Broken}
use Rattle.cx_journal.specs.JournalText.{journal_text}
use Rattle.cx_world.specs.replayed.Serving.{IsReplayOf, idle_lines, told}
use Rattle.cx_top.specs.Notes.{schedule_told}
use Rattle.cx_top.specs.Told.{run_told}

-- where the source tells what it had and has left: it gave these bytes in between
abbrev pub Gave : Option (List ℕ) → Option (List ℕ) → List ℕ → Type 0
Gave None now given = Unit {0}
Gave (Some left) None given = ⊥
Gave (Some left) (Some rest) given = left ≡ given ++ rest

-- where the source tells it: these bytes are all that it had, and none are left
abbrev pub GaveAll : Option (List ℕ) → Option (List ℕ) → List ℕ → Type 0
GaveAll None now bytes = Unit {0}
GaveAll (Some left) now bytes = (bytes ≡ left) × (now ≡ Some [])

-- the bytes are a schedule within the limits. The text is that of the journal of its run over these handlers, and behind it, where
-- a premise is broken, the first breach; what is said besides tells each clause of caps that grants nothing, that breach, and which lines of the
-- schedule did nothing
pub record Replays (handlers : Handlers) (bytes : List ℕ) (is_broken : Bool) (text told_besides : List ℕ) : Type 0 where
  pub script : List Numbered
  pub lines : Lines bytes script
  pub short : IsShort bytes
  pub journal : List Entry
  pub found : Option Broken
  pub replayed : IsReplayOf handlers script journal found
  pub tells : is_broken ≡ is_some found
  pub written : text ≡ journal_text (told journal found)
  pub besides : told_besides ≡ schedule_told script ++ run_told found (idle_lines handlers script)
