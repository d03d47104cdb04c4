-- Schedules: what is known behind their lines, the laws of these, and the ranges of their numbers.
use Rattle.std.proofs.Common.{◌≡◌, ℕ, ◌+◌, ◌≤◌, true, refl, List, [], ◌∷◌, ◌++◌, length, Result, Ok, Err, OnOk, sym, ap, ◌∙◌, inl, inr}
use Rattle.std.specs.Prelude.{fold}
use Rattle.std.specs.List.{list_all}
use Rattle.std.proofs.lemmas.List.Folds.{list_all-append}
use Rattle.cx_words.specs.Cutting.{IsShort}
use Rattle.cx_words.specs.declared.known.Known.{Known}
use Rattle.cx_words.specs.lines.Known.{nothing}
use Rattle.cx_lines.specs.declared.lines.Line.{Line}
use Rattle.cx_lines.specs.declared.lines.Numbered.{Numbered}
use Rattle.cx_lines.specs.Knowing.{known_of, knowing, knowing_numbered}
use Rattle.cx_lines.specs.Lines.{is_numbered_in_range}
use Rattle.cx_lines.proofs.Laws.{in_range, seen_clean, seen_spelled, unique}
use Rattle.cx_schedule.specs.declared.refusals.ScheduleRefusal.{ScheduleRefusal}
use Rattle.cx_schedule.specs.declared.refusals.ScheduleRefusal.TheVariants.{OutOfMemory}
use Rattle.cx_schedule.specs.Files.{Adds, IsScheduleCause, Lines, Said, SpellsBehind, bad_behind, numbered}
use Rattle.cx_schedule.specs.Grammars.{line_words}
use Rattle.cx_schedule.proofs.Grammars.{IsGrammar}
use Rattle.cx_schedule.proofs.Grammars as grammars

-- the lines of a schedule are a grammar
pub schedules : IsGrammar SpellsBehind bad_behind
schedules = record {
  clean = λ earlier x words spelled. seen_clean (known_of earlier) x words spelled;
  unique = λ earlier x y words spelled other. unique (known_of earlier) (known_of earlier) x y words spelled other;
  seen = λ earlier words none. seen_spelled (known_of earlier) words none;
}

-- where the bytes are those of a schedule, only want of memory is an answer besides it
pub only_memory : (bytes : List ℕ) (script : List Numbered) (refusal : ScheduleRefusal) → IsShort bytes → Lines bytes script → IsScheduleCause bytes refusal → refusal ≡ OutOfMemory
only_memory bytes script refusal short said cause = grammars.only_memory SpellsBehind numbered bad_behind schedules bytes script refusal short said cause

-- a schedule within the limits has few lines
pub few_in_all : (bytes : List ℕ) (script : List Numbered) → IsShort bytes → Lines bytes script → length script ≤ 20000
few_in_all bytes script short said = grammars.few_in_all SpellsBehind numbered bad_behind schedules bytes script short said

-- ---- what is known

fold_push : {A B : Type 0} (f : B → A → B) (b : B) (xs : List A) (x : A) → fold f b (xs ++ x ∷ []) ≡ f (fold f b xs) x
fold_push f b [] x = refl
fold_push f b (y ∷ ys) x = fold_push f (f b y) ys x

-- what is known behind a line more
pub known_more : (lines now : List Numbered) (number : ℕ) (line : Line) (before after : Known) → before ≡ known_of lines → after ≡ knowing before line → now ≡ lines ++ numbered number line ∷ [] → after ≡ known_of now
known_more lines now number line before after was is grown =
    is ∙ ap (λ k. knowing k line) was ∙ sym (fold_push knowing_numbered nothing lines (numbered number line)) ∙ ap known_of (sym grown)

pub known_noted : {X E : Type 0} (r : Result X E) (lines now : List Numbered) (number : ℕ) (line : Line) (before after : Known) → before ≡ known_of lines
    → OnOk r (after ≡ knowing before line) → now ≡ lines ++ numbered number line ∷ [] → OnOk r (after ≡ known_of now)
known_noted (Ok x) lines now number line before after was is grown = known_more lines now number line before after was is grown
known_noted (Err e) lines now number line before after was is grown = tt

-- ---- the ranges of numbers

-- what a line adds is in its ranges
added_range : (number : ℕ) (earlier now : List Numbered) (line : List ℕ) → Adds number earlier line now → list_all is_numbered_in_range earlier ≡ true → list_all is_numbered_in_range now ≡ true
added_range number earlier now line (inl p) all = rw p.1 all
added_range number earlier now line (inr (kept, x, spelled, is)) all =
    let one = in_range (known_of earlier) x (line_words line) spelled in
    rw (is, list_all-append, all, one) refl

pub all_in_range : (number : ℕ) (earlier script : List Numbered) (lines : List (List ℕ)) → Said number earlier lines script → list_all is_numbered_in_range earlier ≡ true → list_all is_numbered_in_range script ≡ true
all_in_range number earlier script [] said all = rw said all
all_in_range number earlier script (line ∷ lines) (now, adds, said) all =
    all_in_range (number + 1) now script lines said (added_range number earlier now line adds all)
