-- What the text of a journal says, line by line, and its first line that says nothing.
use Rattle.std.specs.Prelude.{ℕ, ◌+◌, ◌≡◌, ◌⊎◌, true, max, List, [], ◌∷◌, Option, Some, None}
use Rattle.cx_journal.specs.declared.entries.Entry.{Entry}
use Rattle.cx_journal.specs.declared.entries.Entry.TheVariants as entry
use Rattle.cx_words.specs.lines.Sights.{shown_of, word_at}
use Rattle.cx_words.specs.Cutting.{lines_of, words_of}
use Rattle.cx_audit_text.specs.words.Choices.{head_of}
use Rattle.cx_audit_text.specs.words.Wrong.{wrong_from}
use Rattle.cx_audit_text.specs.declared.choices.JournalHead.{JournalHead}
use Rattle.cx_audit_text.specs.declared.judge.WrongWord.{WrongWord}
use Rattle.cx_audit_text.specs.declared.judge.WrongWord.TheVariants as wrong
use Rattle.cx_audit_text.specs.declared.words_places.CountedAbove.{CountedAbove}
use Rattle.cx_audit_text.specs.lines.Lines.{Spells, SpellsBehind, places}
use Rattle.cx_audit_text.specs.declared.entries.JournalLine.{JournalLine}
use Rattle.cx_audit_text.specs.declared.entries.JournalLine.TheVariants as line
use Rattle.cx_audit_text.specs.declared.reading.Judged.{Judged}
use Rattle.cx_audit_text.specs.declared.reading.Judged.TheVariants as judged
use Rattle.cx_audit_text.specs.declared.refusals.WrongLine.{WrongLine}
use Rattle.cx_audit_text.specs.declared.refusals.LineRefusal.{LineRefusal}
use Rattle.cx_audit_text.specs.declared.refusals.LineRefusal.TheVariants as line_refusal
use Rattle.cx_audit_text.specs.declared.refusals.JournalRefusal.{JournalRefusal}
use Rattle.cx_audit_text.specs.declared.refusals.JournalRefusal.TheVariants as refusal

-- ---- one line

-- the first wrong word behind a first word of this kind, or the first word where it is of none
abbrev pub wrong_with : CountedAbove → List (List ℕ) → Option JournalHead → Option WrongWord
wrong_with counted words None = Some wrong.UnknownWord
wrong_with counted words (Some head) = wrong_from counted 2 (places head words) words

-- the first wrong word of a line
abbrev pub wrong_of : CountedAbove → List (List ℕ) → Option WrongWord
wrong_of counted [] = Some wrong.UnknownWord
wrong_of counted (word ∷ words) = wrong_with counted words (head_of word)

-- the number of the wrong word
abbrev pub wrong_number : WrongWord → ℕ
wrong_number wrong.UnknownWord = 1
wrong_number (wrong.Unfit number place) = number
wrong_number (wrong.Missing number place) = number
wrong_number (wrong.Extra number) = number

-- what stands there: the word, or the last one, as it is shown
abbrev pub described : List (List ℕ) → WrongWord → WrongLine
described words found = record {
  wrong = found;
  shown = shown_of (word_at words (wrong_number found));
}

abbrev pub IsLineCause : CountedAbove → List (List ℕ) → LineRefusal → Type 0
IsLineCause counted words (line_refusal.Wrong bad) = (wrong_of counted words ≡ Some bad.wrong) × (bad ≡ described words bad.wrong)
IsLineCause counted words line_refusal.OutOfMemory = Unit {0}

-- what words are found to be
abbrev pub IsJudged : CountedAbove → List (List ℕ) → Judged → Type 0
IsJudged counted words (judged.Said said) = Spells counted said words
IsJudged counted words (judged.Wrong found) = wrong_of counted words ≡ Some found

-- the same of words behind a first word of this kind
abbrev pub IsJudgedBehind : CountedAbove → JournalHead → List (List ℕ) → Judged → Type 0
IsJudgedBehind counted head words (judged.Said said) = SpellsBehind counted head words said
IsJudgedBehind counted head words (judged.Wrong found) = wrong_from counted 2 (places head words) words ≡ Some found

-- ---- what is counted

abbrev pub nothing : CountedAbove
nothing = record { issued = 0; cookies = 0 }

-- a cookie more, where it is none of those that are counted
abbrev pub with_cookie : CountedAbove → ℕ → CountedAbove
with_cookie counted cookie = record { issued = counted.issued; cookies = max counted.cookies cookie }

abbrev pub behind_entry : CountedAbove → Entry → CountedAbove
behind_entry counted (entry.Issued t) = record { issued = counted.issued + 1; cookies = counted.cookies }
behind_entry counted (entry.Admitted a) = with_cookie counted a.cookie
behind_entry counted (entry.Resumed a) = with_cookie counted a.cookie
behind_entry counted (entry.Sent s) = with_cookie counted s.cookie
behind_entry counted (entry.Handled h) = with_cookie counted h.cookie
behind_entry counted _ = counted

-- what is counted behind the line
abbrev pub counted_behind : CountedAbove → JournalLine → CountedAbove
counted_behind counted (line.Entry e) = behind_entry counted e
counted_behind counted (line.Administered a) = counted

-- ---- all lines

-- each of these lines spells one of these, in order, where so much is counted above
abbrev pub Say : CountedAbove → List (List ℕ) → List JournalLine → Type 0
Say counted [] [] = Unit {0}
Say counted [] (said ∷ rest) = ⊥
Say counted (line ∷ lines) [] = ⊥
Say counted (line ∷ lines) (said ∷ rest) = Spells counted said (words_of true line) × Say (counted_behind counted said) lines rest

-- the line of this number, from 1, is the first that spells nothing, and this is its first wrong word
abbrev pub IsFirstBad : CountedAbove → List (List ℕ) → ℕ → WrongLine → Type 0
IsFirstBad counted [] number bad = ⊥
IsFirstBad counted (line ∷ lines) number bad =
    ((number ≡ 1) × IsLineCause counted (words_of true line) (line_refusal.Wrong bad))
    ⊎ ((said : JournalLine) × (before : ℕ) × (number ≡ before + 1) × Spells counted said (words_of true line)
    × IsFirstBad (counted_behind counted said) lines before bad)

-- the bytes are the text of a journal that says these
abbrev pub IsJournal : List ℕ → List JournalLine → Type 0
IsJournal bytes said = Say nothing (lines_of bytes) said

abbrev pub IsJournalCause : List ℕ → JournalRefusal → Type 0
IsJournalCause bytes (refusal.BadLine number bad) = IsFirstBad nothing (lines_of bytes) number bad
IsJournalCause bytes refusal.OutOfMemory = Unit {0}

-- it is refused at this line for this word, or memory is wanting
abbrev pub IsRefusedAt : ℕ → WrongLine → JournalRefusal → Type 0
IsRefusedAt number bad (refusal.BadLine line why) = (line ≡ number) × (why ≡ bad)
IsRefusedAt number bad refusal.OutOfMemory = Unit {0}
