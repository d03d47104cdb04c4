-- The first word of a line, from the left, that its place doesn't take.
use Rattle.std.specs.Prelude.{ℕ, ◌+◌, List, [], ◌∷◌, Option, Some, None, if◌then◌else◌}
use Rattle.cx_audit_text.specs.declared.judge.WrongWord.{WrongWord}
use Rattle.cx_audit_text.specs.declared.judge.WrongWord.TheVariants.{Unfit, Missing, Extra}
use Rattle.cx_audit_text.specs.declared.words_places.CountedAbove.{CountedAbove}
use Rattle.cx_audit_text.specs.declared.words_places.JournalPlace.{JournalPlace}
use Rattle.cx_audit_text.specs.words.Items.{is_good}

-- of words that stand at these places, the first of which has this number: the first that isn't good at its place, a place
-- that has no word, or a word that has no place
abbrev pub wrong_from : CountedAbove → ℕ → List JournalPlace → List (List ℕ) → Option WrongWord
wrong_from counted number [] [] = None
wrong_from counted number [] (word ∷ words) = Some (Extra number)
wrong_from counted number (place ∷ places) [] = Some (Missing number place)
wrong_from counted number (place ∷ places) (word ∷ words) =
    if is_good counted place word then wrong_from counted (number + 1) places words else Some (Unfit number place)
