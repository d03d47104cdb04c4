-- What a replay of a schedule writes, where its run breaks no premise.
use Rattle.std.specs.Prelude.{ℕ, List}
use Rattle.cx_desk.specs.Handlers.{Handlers}
use Rattle.cx_journal.specs.JournalText.{journal_text}
use Rattle.cx_lines.specs.declared.lines.Numbered.{Numbered}
use Rattle.cx_run.specs.Runs.{run_journal}

-- the text of the journal of its run, over these handlers
abbrev pub written : Handlers → List Numbered → List ℕ
written handlers script = journal_text (run_journal handlers script)
