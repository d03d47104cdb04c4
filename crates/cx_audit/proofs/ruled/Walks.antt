-- Steps along the entries.
use Rattle.std.proofs.Common.{◌≡◌, ℕ, ◌+◌, ◌<◌, Bool, true, false, cond, List, [], ◌∷◌, ◌++◌, length, get_or, take, drop, Option, Some, None, refl, sym, ap, ◌∙◌, arith}
use Rattle.std.specs.Option.{option_or}
use Rattle.std.proofs.lemmas.List.{drop_more, length-take, take-append-drop, take_more}
use Rattle.std.proofs.Math.Seq.{take-length}
use Rattle.cx_journal.specs.Behind.{EachBehind}
use Rattle.cx_journal.proofs.BehindLemmas.{EachBehind-append}
use Rattle.cx_journal.specs.Legal.{IsLegal}
use Rattle.cx_journal.specs.declared.entries.Entry.{Entry}
use Rattle.cx_audit.specs.ruled.Rules.{IsFirstBreach, IsFoundAt, KeepsAll}
use Rattle.cx_audit.specs.ruled.Tests.{Knows, broken_by}
use Rattle.cx_audit.specs.declared.known.Known.{Known}
use Rattle.cx_audit.specs.declared.rules.Rule.{Rule}
use Rattle.cx_audit.proofs.ruled.Found.{found_at}
use Rattle.cx_audit.proofs.ruled.Judged.{judged_by}
use Rattle.cx_audit.proofs.ruled.RuleLaws.{legal_from}

-- the last that passes, one more gone through
pub or_again : {X : Type 0} (o found : Option X) (b : Bool) (x : X) → option_or (option_or o (cond b (Some x) None)) found ≡ option_or o (cond b (Some x) found)
or_again None found true x = refl
or_again None found false x = refl
or_again (Some y) found b x = refl

-- one entry more keeps each rule
pub kept_more : (whole earlier : List Entry) (e : Entry) → EachBehind (KeepsAll whole) [] earlier → KeepsAll whole earlier e → EachBehind (KeepsAll whole) [] (earlier ++ e ∷ [])
kept_more whole earlier e each keeps = EachBehind-append (KeepsAll whole) [] earlier (e ∷ []) each (keeps, tt)

apart : (whole : List Entry) (place : ℕ) (e : Entry) → place < length whole → whole ≡ take place whole ++ get_or whole place e ∷ drop (place + 1) whole
apart whole place e low = sym (take-append-drop place whole) ∙ ap (λ rest. take place whole ++ rest) (drop_more whole place e low)

counted : (whole : List Entry) (place : ℕ) → place < length whole → place ≡ length (take place whole)
counted whole place low = let n : length (take place whole) ≡ place = simp length-take (omega arith) in sym n

-- the entry that breaks a rule is the first that does
pub first_is : (whole : List Entry) (place : ℕ) (e : Entry) (r : Rule) → place < length whole → get_or whole place e ≡ e → EachBehind (KeepsAll whole) [] (take place whole)
    → IsFoundAt whole (take place whole) e (Some r) → IsFirstBreach whole (record { place = place; rule = r })
first_is whole place e r low same each found = record {
  before = take place whole;
  breaking = e;
  after = drop (place + 1) whole;
  place = apart whole place e low ∙ ap (λ k. take place whole ++ k ∷ drop (place + 1) whole) same;
  count = counted whole place low;
  kept = each;
  least = found;
}

-- what is found at an entry
pub step_found : (whole : List Entry) (place : ℕ) (known : Known) (e : Entry) (o : Option Rule) → Knows whole (take place whole) known
    → EachBehind (KeepsAll whole) [] (take place whole) → o ≡ broken_by known e → IsFoundAt whole (take place whole) e o
step_found whole place known e o knows each is = rw (is, judged_by whole (take place whole) known knows e) (found_at whole (take place whole) e each)

pub one_more : (whole : List Entry) (place : ℕ) (e : Entry) → place < length whole → get_or whole place e ≡ e → take (place + 1) whole ≡ take place whole ++ e ∷ []
one_more whole place e low same = take_more whole place e low ∙ ap (λ k. take place whole ++ k ∷ []) same

kept_of : (whole front other : List Entry) → front ≡ other → EachBehind (KeepsAll whole) [] front → EachBehind (KeepsAll whole) [] other
kept_of whole front other same kept = rw same at kept

-- at the end all is legal
pub all_legal : (whole : List Entry) (place : ℕ) → place ≡ length whole → EachBehind (KeepsAll whole) [] (take place whole) → IsLegal whole
all_legal whole place end kept =
    let all : take place whole ≡ whole = ap (λ k. take k whole) end ∙ take-length whole in
    legal_from whole (kept_of whole (take place whole) whole all kept)
