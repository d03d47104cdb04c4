-- What is said besides, from what was found.
use Rattle.std.proofs.Common.{◌≡◌, ℕ, Bool, List, [], ◌++◌, Option, None, is_some, refl, ap, ◌∙◌}
use Rattle.cx_desk.specs.Handlers.{Handlers}
use Rattle.cx_journal.specs.JournalText.{journal_text}
use Rattle.cx_journal.specs.declared.entries.Entry.{Entry}
use Rattle.cx_journal.specs.declared.premises.Broken.{Broken}
use Rattle.cx_help.specs.line.Sights.{line_at, sight_of}
use Rattle.cx_help.specs.declared.sights.LineSight.{LineSight}
use Rattle.cx_lines.specs.declared.lines.Numbered.{Numbered}
use Rattle.cx_lines.specs.declared.sight.BadWord.{BadWord}
use Rattle.cx_world.specs.declared.idle.IdleLine.{IdleLine}
use Rattle.cx_world.specs.replayed.Serving.{IsReplayOf, idle_lines, told}
use Rattle.cx_schedule.specs.Files.{Lines}
use Rattle.cx_words.specs.Cutting.{IsShort, lines_of}
use Rattle.cx_top.specs.Notes.{schedule_told}
use Rattle.cx_top.specs.Replays.{Replays}
use Rattle.cx_top.specs.Sentences.{bad_line_text}
use Rattle.cx_top.specs.Told.{line_told, refusal_told, run_told}
use Rattle.cx_top.specs.declared.status.Status.TheVariants.{BadSchedule}

-- the sentence of a line by what is told of it
pub bad_line_told : (bytes : List ℕ) (line : ℕ) (bad : BadWord) (sight : LineSight) (said : List ℕ) → said ≡ line_told (bad_line_text line sight)
    → sight ≡ sight_of (line_at (lines_of bytes) line) bad → said ≡ refusal_told bytes (BadSchedule line bad)
bad_line_told bytes line bad sight said says is = says ∙ ap (λ (s : LineSight). line_told (bad_line_text line s)) is

-- a replay with what is said of it
pub replay_made : (handlers : Handlers) (bytes : List ℕ) (is_broken : Bool) (text said : List ℕ) (script : List Numbered) (journal : List Entry) (found : Option Broken) (idle : List IdleLine)
    → Lines bytes script → IsShort bytes → IsReplayOf handlers script journal found → is_broken ≡ is_some found
    → text ≡ journal_text (told journal found) → said ≡ schedule_told script ++ run_told found idle → idle ≡ idle_lines handlers script → Replays handlers bytes is_broken text said
replay_made handlers bytes is_broken text said script journal found idle lines short replayed tells written says is = record {
  script = script;
  lines = lines;
  short = short;
  journal = journal;
  found = found;
  replayed = replayed;
  tells = tells;
  written = written;
  besides = says ∙ ap (λ (lines : List IdleLine). schedule_told script ++ run_told found lines) is;
}
