-- What is audited is the text of a run in which no breach is found.
use Rattle.std.proofs.Common.{◌≡◌, ℕ, true, false, List, [], ◌++◌, Option, Some, None, ap, subst, ◌∙◌}
use Rattle.std.specs.Prelude.{is_some}
use Rattle.cx_audit.specs.Verdicts.{IsAudit}
use Rattle.cx_audit.specs.declared.verdicts.Verdict.{Verdict}
use Rattle.cx_audit.specs.declared.verdicts.Verdict.TheVariants.{Legal}
use Rattle.cx_desk.specs.Handlers.{Handlers}
use Rattle.cx_journal.specs.JournalText.{journal_text}
use Rattle.cx_journal.specs.declared.entries.Entry.{Entry}
use Rattle.cx_journal.specs.declared.premises.Broken.{Broken}
use Rattle.cx_laws_text.specs.printed.Tellable.{AreOfTypes}
use Rattle.cx_lines.specs.declared.lines.Numbered.{Numbered}
use Rattle.cx_world.specs.replayed.Serving.{IsReplayOf, told}
use Rattle.cx_run.specs.Runs.{IsFoundOf}
use Rattle.cx_schedule.specs.Files.{Lines}
use Rattle.cx_words.specs.Cutting.{IsShort}
use Rattle.cx_laws_legal.specs.legal.Written.{written}
use Rattle.cx_laws_legal.proofs.legal.Legal.{replay-legal}

pub found-some : (handlers : Handlers) (script : List Numbered) (found : Option Broken) → IsFoundOf handlers script found → is_some found ≡ true
    → (broken : Broken) × IsFoundOf handlers script (Some broken)
found-some handlers script None is some = absurd (let e : false ≡ true = some in cc)
found-some handlers script (Some broken) is some = (broken, is)

-- the text of a run in which none is found
pub text-legal : (handlers : Handlers) (bytes : List ℕ) (script : List Numbered) (journal entries : List Entry) (found : Option Broken) (front text : List ℕ) (verdict : Verdict)
    → Lines bytes script → IsReplayOf handlers script journal found → is_some found ≡ false → entries ≡ journal → AreOfTypes entries → front ≡ [] → text ≡ front ++ journal_text (told journal found)
    → IsShort (written handlers script) → IsAudit text verdict → verdict ≡ Legal
text-legal handlers bytes script journal entries (Some broken) front text verdict lines replayed none same types begins is short audited = absurd (let e : true ≡ false = none in cc)
text-legal handlers bytes script journal entries None front text verdict lines replayed none same types begins is short audited =
    replay-legal handlers bytes script lines replayed.found_so (subst AreOfTypes (same ∙ replayed.run) types) short verdict
    (subst (λ (t : List ℕ). IsAudit t verdict) (is ∙ ap (λ (f : List ℕ). f ++ journal_text journal) begins ∙ ap journal_text replayed.run) audited)
