-- How a run begins, and what is told of it at its end.
use Rattle.std.proofs.Common.{◌≡◌, ℕ, ◌+◌, ◌<◌, ◌≤◌, Bool, true, false, List, [], ◌∷◌, ◌++◌, length, get_or, map, take, Option, None, refl, sym, subst, ap, ◌∙◌, append-nil, inl, inr}
use Rattle.std.specs.List.{list_all}
use Rattle.std.proofs.lemmas.List.{map-append, take_all, take_more}
use Rattle.std.proofs.lemmas.List.Folds.{list_all-append}
use Rattle.cx_base.specs.Names.{Name}
use Rattle.cx_desk.specs.Handlers.{Handlers}
use Rattle.cx_journal.specs.declared.premises.Broken.{Broken}
use Rattle.cx_lines.specs.Knowing.{known_of}
use Rattle.cx_lines.specs.Lines.{is_numbered_in_range}
use Rattle.cx_lines.specs.declared.lines.Numbered.{Numbered}
use Rattle.cx_world.specs.actors.Held.{StandFor}
use Rattle.cx_premises.specs.Ledgers.{StandsFor}
use Rattle.cx_world_start.specs.cx_run.specs.Happenings.{Entered, journal_from}
use Rattle.cx_world_start.specs.cx_run.specs.Opening.{Setup, leaks_entered, nodes_of, opening_world, posts_of}
use Rattle.cx_world_start.specs.cx_run.specs.Runs.{IsFoundOf, run_journal, setup_of, trace}
use Rattle.cx_world_start.specs.cx_run.specs.Schedules.{after_line, after_lines}
use Rattle.cx_world_start.specs.cx_run.specs.Sending.{is_numbered_written}
use Rattle.cx_world_start.specs.cx_run.specs.Worlds.{World}
use Rattle.cx_world_start.specs.cx_run.proofs.Written.{line-written}
use Rattle.cx_schedule.proofs.Whole as schedule
use Rattle.cx_schedule.specs.Files.{Adds, Said}
use Rattle.cx_schedule.specs.Grammars.{line_words}
use Rattle.cx_world.specs.Heads.{IsSchedule, with_handlers}
use Rattle.cx_steps.specs.Breach.{IsFound}
use Rattle.cx_steps.specs.declared.seals.Logged.{Logged}
use Rattle.cx_words.specs.Cutting.{lines_of}
use Rattle.cx_world.specs.Beginning.{began}
use Rattle.cx_world.specs.Carried.{Began, Carries, IsRecord, MakesAlone}
use Rattle.cx_world.specs.declared.records.Record.{Record}
use Rattle.cx_world.specs.declared.world.World.{World as Held}

-- nothing happened yet
pub recorded : {handlers : Handlers} (b : Began handlers) (told : Record) → told.journal ≡ b.journal → StandsFor told.ledger b.leaked b.log → IsRecord b told []
recorded b told journal ledger = record {
  journal = journal ∙ sym (append-nil b.journal);
  ledger = rw (append-nil b.log) ledger;
}

pub begun : (handlers : Handlers) (setup : Setup) (world : Held) → StandFor handlers world.nodes (nodes_of (with_handlers handlers setup)) (posts_of setup) → world.wires ≡ [] → world.left ≡ None → world.line ≡ 0
    → IsRecord (began (with_handlers handlers setup)) world.told []
    → Carries (began (with_handlers handlers setup)) None world (opening_world (with_handlers handlers setup))
begun handlers setup world nodes wires left line told = record {
  nodes = nodes;
  led = refl;
  wires = wires;
  left = left;
  line = line;
  told = told;
  stirred = tt;
}

-- ---- at the end

pub journal_told : (handlers : Handlers) (script : List Numbered) (world : Held) → Carries (began (setup_of handlers script)) None world (after_lines (opening_world (setup_of handlers script)) script)
    → world.told.journal ≡ run_journal handlers script
journal_told handlers script world k =
    k.told.journal ∙ sym (map-append (λ (e : Entered). e.entry) (leaks_entered (setup_of handlers script)) (journal_from (nodes_of (setup_of handlers script)) (trace handlers script)))

pub breach_told : (handlers : Handlers) (script : List Numbered) (world : Held) (found : Option Broken)
    → Carries (began (setup_of handlers script)) None world (after_lines (opening_world (setup_of handlers script)) script)
    → ((leaked : List Name) (log : List Logged) → StandsFor world.told.ledger leaked log → IsFound leaked log found) → IsFoundOf handlers script found
breach_told handlers script world found k finds = finds _ _ k.told.ledger

-- ---- lines

-- each line of a schedule is within its bounds
pub in_range : (script : List Numbered) → IsSchedule script → list_all is_numbered_in_range script ≡ true
in_range script (bytes, short, said) = schedule.all_in_range 1 [] script (lines_of bytes) said refl

-- each operation of its lines can be written
written_more : (number : ℕ) (earlier now : List Numbered) (line : List ℕ) → Adds number earlier line now → list_all is_numbered_written earlier ≡ true → list_all is_numbered_written now ≡ true
written_more number earlier now line (inl p) all = rw p.1 all
written_more number earlier now line (inr (kept, x, spelled, is)) all =
    let one = line-written (known_of earlier) x (line_words line) spelled in
    rw (is, list_all-append, all, one) refl

written_all : (number : ℕ) (earlier script : List Numbered) (lines : List (List ℕ)) → Said number earlier lines script → list_all is_numbered_written earlier ≡ true → list_all is_numbered_written script ≡ true
written_all number earlier script [] said all = rw said all
written_all number earlier script (line ∷ lines) (now, adds, said) all =
    written_all (number + 1) now script lines said (written_more number earlier now line adds all)

pub all_written : (script : List Numbered) → IsSchedule script → list_all is_numbered_written script ≡ true
all_written script (bytes, short, said) = written_all 1 [] script (lines_of bytes) said refl

-- one line more
pub after_more : (w : World) (lines : List Numbered) (line : Numbered) → after_lines w (lines ++ line ∷ []) ≡ after_line (after_lines w lines) line
after_more w [] line = refl
after_more w (l ∷ lines) line = after_more (after_line w l) lines line

pub acted_more : {handlers : Handlers} (old mid new : Held) (lines : List Numbered) (i : ℕ) (line : Numbered) → i < length lines → line ≡ get_or lines i line
    → MakesAlone handlers old mid (λ w. after_lines w (take i lines)) → MakesAlone handlers mid new (λ w. after_line w line) → MakesAlone handlers old new (λ w. after_lines w (take (i + 1) lines))
acted_more {handlers} old mid new lines i line h e first last =
    let more : take (i + 1) lines ≡ take i lines ++ line ∷ [] = take_more lines i line h ∙ ap (λ (y : Numbered). take i lines ++ y ∷ []) (sym e) in
    λ (b : Began handlers) (w : World) (k : Carries b None old w).
    let P : List Numbered → Type 0 = λ ls. Carries b None new (after_lines w ls) in
    let Q : World → Type 0 = Carries b None new in
    subst P (sym more) (subst Q (sym (after_more w (take i lines) line)) (last b (after_lines w (take i lines)) (first b w k)))

-- all of them
pub acted_all : {handlers : Handlers} (old new : Held) (lines : List Numbered) (i : ℕ) → length lines ≤ i → MakesAlone handlers old new (λ w. after_lines w (take i lines))
    → MakesAlone handlers old new (λ w. after_lines w lines)
acted_all {handlers} old new lines i h all =
    λ (b : Began handlers) (w : World) (k : Carries b None old w).
    let P : List Numbered → Type 0 = λ ls. Carries b None new (after_lines w ls) in
    subst P (take_all i lines h) (all b w k)

-- the world behind all lines of a schedule
pub behind : (handlers : Handlers) (setup : Setup) (script : List Numbered) (first last : Held) → with_handlers handlers setup ≡ setup_of handlers script
    → Carries (began (with_handlers handlers setup)) None first (opening_world (with_handlers handlers setup))
    → MakesAlone handlers first last (λ w. after_lines w script)
    → Carries (began (setup_of handlers script)) None last (after_lines (opening_world (setup_of handlers script)) script)
behind handlers setup script first last is begins acts =
    let P : Setup → Type 0 = λ s. Carries (began s) None last (after_lines (opening_world s) script) in
    subst P is (acts (began (with_handlers handlers setup)) (opening_world (with_handlers handlers setup)) begins)
