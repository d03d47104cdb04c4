-- The text of entries of which the five laws hold is legal to an auditor, and is called nothing else.
use Rattle.std.proofs.Common.{◌≡◌, ◌≤◌, ◌<◌, ◌^◌, List, [], ◌∷◌, ◌++◌, map, length, refl, sym, ap, subst, ◌∙◌, arith, append-nil, append_assoc, length-append}
use Rattle.std.specs.List.{filter_map}
use Rattle.cx_audit.specs.Verdicts.{IsAudit, IsVerdict, entry_of}
use Rattle.cx_audit.specs.declared.verdicts.Verdict.{Verdict}
use Rattle.cx_audit.specs.declared.verdicts.Verdict.TheVariants as verdict
use Rattle.cx_words.specs.Cutting.{IsShort}
use Rattle.cx_journal.specs.Behind.{EachBehind}
use Rattle.cx_journal.specs.JournalText.{journal_text, line, text_behind}
use Rattle.cx_journal.specs.Legal.{IsLegal}
use Rattle.cx_journal.specs.declared.entries.Entry.{Entry}
use Rattle.cx_journal.specs.declared.entries.Entry.TheVariants as entry
use Rattle.cx_audit_text.specs.declared.entries.JournalLine.{JournalLine}
use Rattle.cx_audit_text.specs.declared.entries.JournalLine.TheVariants as said
use Rattle.cx_audit.specs.ruled.Rules.{IsFirstBreach, KeepsAll}
use Rattle.cx_audit.specs.declared.rules.Breach.{Breach}
use Rattle.cx_audit.proofs.ruled.RuleLaws.{kept_from}
use Rattle.cx_laws_text.proofs.told.Legal.{legal-told}
use Rattle.cx_laws_text.specs.told.Told.{journal_told}
use Rattle.cx_laws_text.specs.printed.Tellable.{AreBounded, AreOfTypes}
use Rattle.cx_laws_text.proofs.printed.Once.{journal-once}
use Rattle.cx_laws_text.proofs.printed.Says.{journal-says}

-- ---- no breach

kept-at : (whole earlier before : List Entry) (e : Entry) (after : List Entry) → EachBehind (KeepsAll whole) earlier (before ++ e ∷ after) → KeepsAll whole (earlier ++ before) e
kept-at whole earlier [] e after each = subst (λ (es : List Entry). KeepsAll whole es e) (sym (append-nil earlier)) each.0
kept-at whole earlier (x ∷ before) e after each =
    subst (λ (es : List Entry). KeepsAll whole es e) (append_assoc earlier (x ∷ []) before) (kept-at whole (earlier ++ x ∷ []) before e after each.1)

no-breach : (entries : List Entry) (breach : Breach) → IsLegal entries → IsFirstBreach entries breach → ⊥
no-breach entries breach lawful first =
    let each : EachBehind (KeepsAll entries) [] (first.before ++ first.breaking ∷ first.after) =
    subst (λ (es : List Entry). EachBehind (KeepsAll entries) [] es) first.place (kept_from entries lawful) in
    first.least.breaks (kept-at entries [] first.before first.breaking first.after each breach.rule)

entries-told : (es : List Entry) → filter_map entry_of (map (λ (e : Entry). said.Entry e) es) ≡ es
entries-told [] = refl
entries-told (e ∷ es) = ap (λ rest. e ∷ rest) (entries-told es)

verdict-legal : (told : List Entry) (lines : List JournalLine) (found : Verdict) → filter_map entry_of lines ≡ told → IsLegal told → IsVerdict lines found → found ≡ verdict.Legal
verdict-legal told lines verdict.Legal same lawful is = refl
verdict-legal told lines (verdict.Breaks number rule) same lawful (breach, first, broken, number_is) =
    absurd (no-breach told breach lawful (subst (λ (es : List Entry). IsFirstBreach es breach) same first))

-- ---- there are no more entries than bytes

line-long : (earlier : List Entry) (e : Entry) → 1 ≤ length (line earlier e)
line-long earlier (entry.Saved x) = omega arith
line-long earlier (entry.Issued x) = omega arith
line-long earlier (entry.Fetched x) = omega arith
line-long earlier (entry.Looked x) = omega arith
line-long earlier (entry.Admitted x) = omega arith
line-long earlier (entry.Resumed x) = omega arith
line-long earlier (entry.Sent x) = omega arith
line-long earlier (entry.Handled x) = omega arith
line-long earlier (entry.Answered x) = omega arith
line-long earlier (entry.Refused x) = omega arith
line-long earlier (entry.Ended x) = omega arith
line-long earlier (entry.Restarted x) = omega arith
line-long earlier (entry.Broken x) = omega arith
line-long earlier (entry.Leaked x) = omega arith

text-long : (earlier es : List Entry) → length es ≤ length (text_behind earlier es)
text-long earlier [] = omega arith
text-long earlier (e ∷ es) =
    omega (arith, line-long earlier e, text-long (earlier ++ e ∷ []) es, length-append (line earlier e) (text_behind (earlier ++ e ∷ []) es))

pub few-entries : (entries : List Entry) → IsShort (journal_text entries) → length entries < 2 ^ 64
few-entries entries short = omega (arith, text-long [] entries, short.0)

-- ---- the whole

pub audited-legal : (entries : List Entry) (found : Verdict) → IsShort (journal_text entries) → AreOfTypes entries → AreBounded entries → IsLegal entries → IsAudit (journal_text entries) found
    → found ≡ verdict.Legal
audited-legal entries found short types bounds lawful (lines, says, is) =
    let few = few-entries entries short in
    let mine : List JournalLine = map (λ (e : Entry). said.Entry e) (journal_told entries) in
    let same : lines ≡ mine = journal-once (journal_text entries) lines mine (omega (arith, short.1)) says (journal-says entries few types bounds) in
    verdict-legal (journal_told entries) lines found (ap (filter_map entry_of) same ∙ entries-told (journal_told entries)) (legal-told entries few lawful) is
