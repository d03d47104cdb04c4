-- The entries of a run in which no breach is found can be told, and the five laws hold of them; so their text is legal to an auditor.
use Rattle.std.proofs.Common.{◌≡◌, ℕ, List, None, map}
use Rattle.cx_audit.specs.Verdicts.{IsAudit}
use Rattle.cx_audit.specs.declared.verdicts.Verdict.{Verdict}
use Rattle.cx_audit.specs.declared.verdicts.Verdict.TheVariants.{Legal}
use Rattle.cx_desk.specs.Handlers.{Handlers}
use Rattle.cx_journal.specs.declared.entries.Entry.{Entry}
use Rattle.cx_audit_text.specs.lines.Reading.{IsJournal}
use Rattle.cx_audit_text.specs.declared.entries.JournalLine.{JournalLine}
use Rattle.cx_audit_text.specs.declared.entries.JournalLine.TheVariants as said
use Rattle.cx_laws_legal.proofs.entered.Whole.{schedule-bounded}
use Rattle.cx_laws_text.proofs.printed.Legal.{audited-legal, few-entries}
use Rattle.cx_laws_text.proofs.printed.Says.{journal-says}
use Rattle.cx_laws_text.specs.printed.Tellable.{AreOfTypes}
use Rattle.cx_laws_text.specs.told.Told.{journal_told}
use Rattle.cx_laws_run.proofs.truth.Whole.{schedule-lawful}
use Rattle.cx_lines.specs.declared.lines.Numbered.{Numbered}
use Rattle.cx_run.specs.Runs.{IsFoundOf, run_journal}
use Rattle.cx_schedule.specs.Files.{Lines}
use Rattle.cx_words.specs.Cutting.{IsShort}
use Rattle.cx_laws_legal.specs.legal.Written.{written}

module _ (handlers : Handlers) (bytes : List ℕ) (script : List Numbered) (lines : Lines bytes script) (sound : IsFoundOf handlers script None)
    (types : AreOfTypes (run_journal handlers script)) (short : IsShort (written handlers script)) where
  pub replay-says : (lines : List JournalLine) × IsJournal (written handlers script) lines
  replay-says = (
    map (λ (e : Entry). said.Entry e) (journal_told (run_journal handlers script)),
    journal-says (run_journal handlers script) (few-entries (run_journal handlers script) short) types (schedule-bounded handlers bytes script lines sound),
  )

  pub replay-legal : (verdict : Verdict) → IsAudit (written handlers script) verdict → verdict ≡ Legal
  replay-legal verdict is =
      audited-legal (run_journal handlers script) verdict short types (schedule-bounded handlers bytes script lines sound) (schedule-lawful handlers bytes script lines sound).legal is
