-- Each operation that the run of a schedule tells a client to send can be written.
use Rattle.std.proofs.Common.{◌≡◌, ℕ, ◌+◌, true, List, [], ◌∷◌, ◌++◌, inl, inr, refl}
use Rattle.std.specs.List.{list_all}
use Rattle.std.proofs.lemmas.List.Folds.{list_all-append}
use Rattle.cx_desk.specs.Handlers.{Handlers}
use Rattle.cx_schedule.specs.cx_lines.specs.Knowing.{known_of}
use Rattle.cx_schedule.specs.cx_lines.specs.declared.lines.Numbered.{Numbered}
use Rattle.cx_laws_links.specs.cx_laws_tickets.specs.cx_run.specs.Runs.{trace}
use Rattle.cx_laws_links.specs.cx_laws_tickets.specs.cx_run.specs.Sending.{AreWritten, is_numbered_written}
use Rattle.cx_laws_links.specs.cx_laws_tickets.specs.cx_run.proofs.Written.{line-written, written}
use Rattle.cx_schedule.specs.Files.{Adds, Lines, Said}
use Rattle.cx_schedule.specs.Grammars.{line_words}
use Rattle.cx_words.specs.Cutting.{lines_of}

added-written : (number : ℕ) (earlier now : List Numbered) (line : List ℕ) → Adds number earlier line now
    → list_all is_numbered_written earlier ≡ true → list_all is_numbered_written now ≡ true
added-written number earlier now line (inl p) all = rw p.1 all
added-written number earlier now line (inr (kept, x, spelled, is)) all =
    let one = line-written (known_of earlier) x (line_words line) spelled in
    rw (is, list_all-append, all, one) refl

all-written : (number : ℕ) (earlier script : List Numbered) (lines : List (List ℕ)) → Said number earlier lines script
    → list_all is_numbered_written earlier ≡ true → list_all is_numbered_written script ≡ true
all-written number earlier script [] said all = rw said all
all-written number earlier script (line ∷ lines) (now, adds, said) all =
    all-written (number + 1) now script lines said (added-written number earlier now line adds all)

pub sends-written : (handlers : Handlers) (bytes : List ℕ) (script : List Numbered) → Lines bytes script → AreWritten (trace handlers script)
sends-written handlers bytes script said = written handlers script (all-written 1 [] script (lines_of bytes) said refl)
