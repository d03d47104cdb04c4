-- What a drill writes: how many entries of five kinds the journal of its run has.
use Rattle.std.specs.Prelude.{ℕ, ◌≡◌, Bool, List, [], ◌∷◌, ◌++◌, Option, Some, None, is_some}
use Rattle.cx_base.specs.Streams.{Takes, TakesFront}
use Rattle.cx_desk.specs.Handlers.{Handlers}
use Rattle.cx_journal.specs.JournalText.{journal_text}
use Rattle.cx_journal.specs.declared.entries.Entry.{Entry}
use Rattle.cx_journal.specs.declared.entries.Entry.TheVariants as entry
use Rattle.cx_journal.specs.declared.premises.Broken.{Broken}
use Rattle.cx_world.specs.replayed.Serving.{IsReplayOf, idle_lines}
use Rattle.cx_schedule.specs.Drills.{drill_script}
use Rattle.cx_top.specs.summary.Summaries.{summary_of, summary_text}
use Rattle.cx_top.specs.Told.{run_told}

-- the line of the first breach, where there is one
abbrev pub breach_line : Option Broken → List ℕ
breach_line None = []
breach_line (Some broken) = journal_text (entry.Broken broken ∷ [])

-- five counts, and behind them the first breach
abbrev pub drill_told : List Entry → Option Broken → List ℕ
drill_told journal found = summary_text (summary_of journal) ++ breach_line found

-- the text is that of the run over these handlers of the schedule of a drill of n clients by a seed; what is said besides tells the first breach, and
-- which lines of the schedule did nothing
pub record Drills (handlers : Handlers) (n seed : ℕ) (is_broken : Bool) (text told_besides : List ℕ) : Type 0 where
  pub journal : List Entry
  pub found : Option Broken
  pub replayed : IsReplayOf handlers (drill_script n seed) journal found
  pub tells : is_broken ≡ is_some found
  pub written : text ≡ drill_told journal found
  pub besides : told_besides ≡ run_told found (idle_lines handlers (drill_script n seed))

-- all of it was written
pub record DrillWrites (handlers : Handlers) (n seed : ℕ) (is_broken : Bool) (taken after : Option (List ℕ)) (told : List ℕ) : Type 0 where
  pub text : List ℕ
  pub drills : Drills handlers n seed is_broken text told
  pub wrote : Takes taken after text

-- a front of it was written
pub record DrillWritesFront (handlers : Handlers) (n seed : ℕ) (taken after : Option (List ℕ)) : Type 0 where
  pub text : List ℕ
  pub is_broken : Bool
  pub told : List ℕ
  pub drills : Drills handlers n seed is_broken text told
  pub wrote : TakesFront taken after text
