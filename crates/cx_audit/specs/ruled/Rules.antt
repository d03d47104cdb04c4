-- The rules of a journal, each said of an entry with those before it, and the first entry that breaks one.
use Rattle.std.specs.Prelude.{ℕ, ◌≡◌, ◌<◌, List, [], ◌∷◌, ◌++◌, length, Option, Some, None}
use Rattle.std.specs.List.{filter_map}
use Rattle.cx_journal.specs.Backed.{IsBackedBy}
use Rattle.cx_journal.specs.Behind.{EachBehind}
use Rattle.cx_journal.specs.GidOnce.{GivesGidOnceBy}
use Rattle.cx_journal.specs.InSession.{IsInSessionBy}
use Rattle.cx_journal.specs.KeepsKeys.{KeepsKeysBy}
use Rattle.cx_journal.specs.Leaks.{IsUnleaked}
use Rattle.cx_journal.specs.Legal.{IsLegal}
use Rattle.cx_journal.specs.PrefixOfSent.{IsPrefix, all_handled_under, sent_under}
use Rattle.cx_journal.specs.Sessions.{IsHandledIn}
use Rattle.cx_journal.specs.declared.entries.Admitted.{Admitted}
use Rattle.cx_journal.specs.declared.entries.Entry.{Entry}
use Rattle.cx_journal.specs.declared.entries.Entry.TheVariants as entry
use Rattle.cx_audit.specs.declared.rules.Breach.{Breach}
use Rattle.cx_audit.specs.declared.rules.Rule.{Rule}
use Rattle.cx_audit.specs.declared.rules.Rule.TheVariants as rule

-- Where the entry handles an operation in a session of an entity that no entry of the whole journal says leaked: what was
-- handled up to here under the cookie for that entity is a front of what the entity sent under it before.
abbrev pub KeepsOrderBy : List Entry → List Entry → Entry → Type 0
KeepsOrderBy whole earlier (entry.Handled h) =
    (session : Admitted) → IsHandledIn earlier h session → IsUnleaked whole session.entity
    → IsPrefix (all_handled_under h.cookie session.entity [] (earlier ++ entry.Handled h ∷ [])) (filter_map (sent_under h.cookie session.entity) earlier)
KeepsOrderBy whole earlier _ = Unit {0}

-- the number of a rule
abbrev pub rule_number : Rule → ℕ
rule_number rule.Backed = 11
rule_number rule.InSession = 12
rule_number rule.KeepsKeys = 13
rule_number rule.PrefixOfSent = 15
rule_number rule.GidOnce = 16

-- an entry of the whole journal keeps the rule, behind the earlier ones
abbrev pub Keeps : Rule → List Entry → List Entry → Entry → Type 0
Keeps rule.Backed whole earlier e = IsBackedBy earlier e
Keeps rule.InSession whole earlier e = IsInSessionBy earlier e
Keeps rule.KeepsKeys whole earlier e = KeepsKeysBy earlier e
Keeps rule.PrefixOfSent whole earlier e = KeepsOrderBy whole earlier e
Keeps rule.GidOnce whole earlier e = GivesGidOnceBy earlier e

-- it keeps each
abbrev pub KeepsAll : List Entry → List Entry → Entry → Type 0
KeepsAll whole earlier e = (r : Rule) → Keeps r whole earlier e

-- it breaks this rule, and none with a lesser number
pub record BreaksLeast (whole earlier : List Entry) (e : Entry) (r : Rule) : Type 0 where
  pub breaks : Keeps r whole earlier e → ⊥
  pub least : (lesser : Rule) → rule_number lesser < rule_number r → Keeps lesser whole earlier e

-- the entry at this place, from 0, is the first that breaks a rule, and this is the least that it breaks
pub record IsFirstBreach (whole : List Entry) (breach : Breach) : Type 0 where
  pub before : List Entry
  pub breaking : Entry
  pub after : List Entry
  pub place : whole ≡ before ++ breaking ∷ after
  pub count : breach.place ≡ length before
  pub kept : EachBehind (KeepsAll whole) [] before
  pub least : BreaksLeast whole before breaking breach.rule

-- what is found in a journal: nothing exactly where its five laws hold, else its first breach
abbrev pub IsFound : List Entry → Option Breach → Type 0
IsFound entries None = IsLegal entries
IsFound entries (Some breach) = IsFirstBreach entries breach

-- what is found at one entry: nothing where it keeps each rule, else the least that it breaks
abbrev pub IsFoundAt : List Entry → List Entry → Entry → Option Rule → Type 0
IsFoundAt whole earlier e None = KeepsAll whole earlier e
IsFoundAt whole earlier e (Some r) = BreaksLeast whole earlier e r
