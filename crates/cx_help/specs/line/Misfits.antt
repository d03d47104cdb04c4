-- Which word of an entity line with too few words doesn't fit at its place, whatever the lines above say.
use Rattle.std.specs.Prelude.{ℕ, ◌+◌, ◌%◌, ◌==◌, Bool, true, false, ◌&&◌, List, [], ◌∷◌, Option, Some, None, is_some, if◌then◌else◌}
use Rattle.cx_words.specs.lines.Faults.{fault_at, same_fault}
use Rattle.cx_words.specs.lines.Places.{unless}
use Rattle.cx_words.specs.lines.Sights.{first_hint, shown_of, word_at}
use Rattle.cx_words.specs.declared.faults.FaultAt.{FaultAt}
use Rattle.cx_words.specs.declared.faults.LineFault.{LineFault}
use Rattle.cx_words.specs.declared.faults.LineFault.TheVariants.{BadName, BadText, Missing}
use Rattle.cx_words.specs.declared.places.WordPlace.{WordPlace}
use Rattle.cx_words.specs.declared.places.WordPlace.TheVariants as at
use Rattle.cx_lines.specs.declared.lines.Head.{Head}
use Rattle.cx_lines.specs.declared.lines.Head.TheVariants as head
use Rattle.cx_lines.specs.declared.settings.SettingForm.TheVariants as setting
use Rattle.cx_lines.specs.declared.sight.BadWord.{BadWord}
use Rattle.cx_words.specs.Words.{caps_of, name_of, service_of}

-- the place of the word of this number in an entity line, from 2 on: a name, and then services and caps in turn
abbrev pub entity_place : ℕ → WordPlace
entity_place number = if number == 2 then at.Entity else if number % 2 == 1 then at.Service else at.Caps

-- what is wrong with a word there, whatever the lines above say
abbrev pub shape_fault : WordPlace → List ℕ → Option LineFault
shape_fault at.Entity word = unless (is_some (name_of word)) BadName
shape_fault at.Service word = unless (is_some (service_of word)) BadText
shape_fault _ word = unless (is_some (caps_of word)) BadText

-- a fault of the word of this number, or else a later one
abbrev pub or_misfit : ℕ → Option LineFault → Option FaultAt → Option FaultAt
or_misfit number None later = later
or_misfit number (Some why) later = Some (fault_at why number)

-- the first of these words that doesn't fit, of which the first has this number
abbrev pub misfit_from : ℕ → List (List ℕ) → Option FaultAt
misfit_from number [] = None
misfit_from number (word ∷ words) = or_misfit number (shape_fault (entity_place number) word) (misfit_from (number + 1) words)

-- the same of the words of an entity line
abbrev pub misfit_of : List (List ℕ) → Option FaultAt
misfit_of [] = None
misfit_of (word ∷ words) = misfit_from 2 words

-- what stands where the words of an entity line have this fault
abbrev pub misfitting : List (List ℕ) → FaultAt → BadWord
misfitting words fault = record {
  fault = fault;
  form = Some (head.Setting setting.Entity);
  takes = Some (entity_place fault.word);
  shown = shown_of (word_at words fault.word);
  hint = first_hint (word_at words fault.word ∷ words);
}

abbrev pub is_entity : Option Head → Bool
is_entity (Some (head.Setting setting.Entity)) = true
is_entity _ = false

-- it is an entity line with too few words
abbrev pub lacks_words : BadWord → Bool
lacks_words bad = same_fault bad.fault.why Missing && is_entity bad.form

-- the one, or else the other
abbrev pub or_bad : List (List ℕ) → Option FaultAt → BadWord → BadWord
or_bad words None bad = bad
or_bad words (Some fault) bad = misfitting words fault

-- what is told of words that have this first fault: of an entity line with too few of them the first that doesn't fit, if there
-- is one
abbrev pub told_of : List (List ℕ) → BadWord → BadWord
told_of words bad = if lacks_words bad then or_bad words (misfit_of words) bad else bad
