-- What is said of the text of a journal.
use Rattle.std.specs.Prelude.{ℕ, ◌≡◌, ◌+◌, List, [], ◌∷◌, Option, Some, None, slice_get}
use Rattle.std.specs.List.{filter_map}
use Rattle.cx_audit.specs.declared.verdicts.AuditRefusal.{AuditRefusal}
use Rattle.cx_audit.specs.declared.verdicts.AuditRefusal.TheVariants as refusal
use Rattle.cx_audit.specs.declared.verdicts.Verdict.{Verdict}
use Rattle.cx_audit.specs.declared.verdicts.Verdict.TheVariants as verdict
use Rattle.cx_journal.specs.Legal.{IsLegal}
use Rattle.cx_journal.specs.declared.entries.Entry.{Entry}
use Rattle.cx_audit_text.specs.lines.Reading.{IsFirstBad, IsJournal, nothing}
use Rattle.cx_audit_text.specs.declared.entries.JournalLine.{JournalLine}
use Rattle.cx_audit_text.specs.declared.entries.JournalLine.TheVariants as line
use Rattle.cx_audit_text.specs.declared.refusals.WrongLine.{WrongLine}
use Rattle.cx_audit.specs.ruled.Rules.{IsFirstBreach}
use Rattle.cx_audit.specs.declared.rules.Breach.{Breach}
use Rattle.cx_audit.specs.declared.rules.Rule.{Rule}
use Rattle.cx_words.specs.Cutting.{lines_of}

-- the entry that a line says, where it says one
abbrev pub entry_of : JournalLine → Option Entry
entry_of (line.Entry e) = Some e
entry_of (line.Administered a) = None

-- the numbers of the lines that say entries, where the first of these lines has this number
abbrev pub entry_numbers : ℕ → List JournalLine → List ℕ
entry_numbers number [] = []
entry_numbers number (line.Entry e ∷ rest) = number ∷ entry_numbers (number + 1) rest
entry_numbers number (line.Administered a ∷ rest) = entry_numbers (number + 1) rest

-- what is said of these lines: they are legal where the five laws hold of their entries; else this is the number of the line of
-- the first entry that breaks a rule, and the least rule that it breaks
abbrev pub IsVerdict : List JournalLine → Verdict → Type 0
IsVerdict said verdict.Legal = IsLegal (filter_map entry_of said)
IsVerdict said (verdict.Breaks number rule) =
    (breach : Breach) × IsFirstBreach (filter_map entry_of said) breach × (breach.rule ≡ rule)
    × (slice_get (entry_numbers 1 said) breach.place ≡ Some number)

-- the text is that of a journal, and this is said of its lines
abbrev pub IsAudit : List ℕ → Verdict → Type 0
IsAudit text found = (said : List JournalLine) × IsJournal text said × IsVerdict said found

abbrev pub IsAuditCause : List ℕ → AuditRefusal → Type 0
IsAuditCause text (refusal.BadLine number bad) = IsFirstBad nothing (lines_of text) number bad
IsAuditCause text refusal.OutOfMemory = Unit {0}

-- it is refused at this line for this word, or memory is wanting
abbrev pub IsRefusedAt : ℕ → WrongLine → AuditRefusal → Type 0
IsRefusedAt number bad (refusal.BadLine line why) = (line ≡ number) × (why ≡ bad)
IsRefusedAt number bad refusal.OutOfMemory = Unit {0}
