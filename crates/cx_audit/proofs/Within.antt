-- The entry that breaks a rule has a line with a number.
use Rattle.std.proofs.Common.{◌≡◌, ℕ, ◌+◌, ◌<◌, List, [], ◌∷◌, ◌++◌, length, Option, Some, refl, ap, subst, ◌∙◌, arith, length-append}
use Rattle.std.specs.List.{filter_map}
use Rattle.cx_journal.specs.declared.entries.Entry.{Entry}
use Rattle.cx_audit_text.specs.declared.entries.JournalLine.{JournalLine}
use Rattle.cx_audit_text.specs.declared.entries.JournalLine.TheVariants as line
use Rattle.cx_audit.specs.ruled.Rules.{IsFirstBreach, IsFound}
use Rattle.cx_audit.specs.declared.rules.Breach.{Breach}
use Rattle.cx_audit.specs.Verdicts.{entry_numbers, entry_of}

as_many : (n : ℕ) (said : List JournalLine) → length (entry_numbers n said) ≡ length (filter_map entry_of said)
as_many n [] = refl
as_many n (line.Entry e ∷ rest) = let more = as_many (n + 1) rest in omega (arith, more)
as_many n (line.Administered a ∷ rest) = as_many (n + 1) rest

within : (entries : List Entry) (breach : Breach) → IsFirstBreach entries breach → breach.place < length entries
within entries breach first =
    let long : length entries ≡ length (first.before ++ first.breaking ∷ first.after) = ap length first.place in
    omega (arith, first.count, long, length-append first.before (first.breaking ∷ first.after))

has_number : (said : List JournalLine) (breach : Breach) → IsFirstBreach (filter_map entry_of said) breach → breach.place < length (entry_numbers 1 said)
has_number said breach first =
    let low = within (filter_map entry_of said) breach first in
    omega (arith, low, as_many 1 said)

-- what was found is a breach of the entries that the lines say
pub of_breach : (said : List JournalLine) (entries now : List Entry) (found : Option Breach) (breach : Breach) → IsFound now found → found ≡ Some breach → now ≡ entries → entries ≡ filter_map entry_of said
    → IsFirstBreach (filter_map entry_of said) breach
of_breach said entries now found breach is some same all =
    let first : IsFirstBreach now breach = subst (λ (o : Option Breach). IsFound now o) some is in
    subst (λ (es : List Entry). IsFirstBreach es breach) (same ∙ all) first

-- and its line has a number
pub has_line : (said : List JournalLine) (breach : Breach) (numbers : List ℕ) → IsFirstBreach (filter_map entry_of said) breach → numbers ≡ entry_numbers 1 said → breach.place < length numbers
has_line said breach numbers first is = rw is (has_number said breach first)
