-- What a user reads of a line that is none of a journal: the word that is wrong, what its place takes, what the line shows besides, and the form of
-- the line.
use Rattle.std.specs.Prelude.{ℕ, ◌==◌, ◌&&◌, Bool, true, false, slice_index, List, codes, if◌then◌else◌}
use Rattle.std.specs.Fmt.{decimal}
use Rattle.cx_base.specs.Joined.{◌<>◌}
use Rattle.cx_help.specs.line.Words.{has_leading_zero, word_text}
use Rattle.cx_words.specs.declared.sight.Shown.{Shown}
use Rattle.cx_audit_text.specs.declared.refusals.WrongLine.{WrongLine}
use Rattle.cx_audit_text.specs.declared.judge.WrongWord.{WrongWord}
use Rattle.cx_audit_text.specs.declared.judge.WrongWord.TheVariants as wrong
use Rattle.cx_audit_text.specs.declared.words_places.JournalPlace.{JournalPlace}
use Rattle.cx_audit_text.specs.declared.words_places.JournalPlace.TheVariants as at
use Rattle.cx_help.specs.audit.Asides.{aside_text, first_aside}
use Rattle.cx_help.specs.audit.Forms.{line_form}
use Rattle.cx_help.specs.audit.Places.{place_text}

-- the words that begin a line
abbrev pub journal_words_text : List ℕ
journal_words_text =
    codes "; a line of a journal begins with saved, issued, fetched, looked, admitted, resumed, sent, handled, answered, refused, ended, restarted, broken, leaked or administered"

-- a ticket is counted from 1 again
abbrev pub counts_anew : JournalPlace → Shown → Bool
counts_anew at.Next shown = (shown.length == 1) && (slice_index shown.bytes 0 == 49)
counts_anew _ shown = false

-- where a second journal stands behind the first
abbrev pub anew_text : Bool → List ℕ
anew_text true = codes " (where a second journal begins here, audit it by itself)"
anew_text false = codes ""

-- what is wrong with the word at its place
abbrev pub unfit_text : JournalPlace → Shown → List ℕ
unfit_text place shown =
    if has_leading_zero shown then codes "has a leading zero; its place takes " <> place_text place
    else codes "isn't what its place takes: " <> place_text place <> anew_text (counts_anew place shown)

-- a word that is missing: what its place takes, what the line shows besides, and its form
abbrev pub missing_word_text : ℕ → List ℕ → List ℕ → List ℕ → List ℕ
missing_word_text number takes aside form = codes "word " <> decimal number <> codes " is missing: " <> takes <> aside <> form

abbrev pub wrong_text : List ℕ → WrongWord → Shown → List ℕ
wrong_text line wrong.UnknownWord shown =
    codes "its first word, " <> word_text shown <> codes ", begins no line" <> first_aside line shown <> journal_words_text
wrong_text line (wrong.Unfit number place) shown =
    codes "word " <> decimal number <> codes ", " <> word_text shown <> codes ", " <> unfit_text place shown <> aside_text line shown <> line_form line
wrong_text line (wrong.Missing number place) shown = missing_word_text number (place_text place) (aside_text line shown) (line_form line)
wrong_text line (wrong.Extra number) shown =
    codes "word " <> decimal number <> codes ", " <> word_text shown <> codes ", is one too many" <> aside_text line shown <> line_form line

-- of the line of this number, which is this one
abbrev pub wrong_in_journal_text : ℕ → List ℕ → WrongLine → List ℕ
wrong_in_journal_text number line bad = codes "line " <> decimal number <> codes " of the journal: " <> wrong_text line bad.wrong bad.shown
