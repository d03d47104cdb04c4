-- What was found in a log so far, while keys may still leak.
use Rattle.std.specs.Prelude.{ℕ, ◌≡◌, Bool, true, false, List, [], ◌∷◌, ◌++◌, ◌⊎◌, Option, Some, None, is_some, if◌then◌else◌}
use Rattle.cx_base.specs.Names.{Name}
use Rattle.cx_journal.specs.declared.premises.Broken.{Broken}
use Rattle.cx_premises.specs.Facts.{is_kept}
use Rattle.cx_premises.specs.declared.facts.Fact.{Fact}
use Rattle.cx_premises.specs.declared.facts.Fact.TheVariants as fact
use Rattle.cx_premises.specs.declared.findings.Findings.{Findings}
use Rattle.cx_premises.specs.declared.findings.Suspect.{Suspect}
use Rattle.cx_steps.specs.Breach.{IsFirstBreach}
use Rattle.cx_steps.specs.Onto.{EachOnto}
use Rattle.cx_steps.specs.Premises.{IsLeakedKey, IsNew, Owes}
use Rattle.cx_steps.specs.declared.seals.Logged.{Logged}

-- ---- what a finding changes

-- the first of the two
abbrev pub or_later : Option Broken → Broken → Option Broken
or_later None later = Some later
or_later (Some first) later = Some first

-- behind a breach that no leak excuses
abbrev pub closed : Findings → Broken → Findings
closed findings broken = record findings { breach = or_later findings.breach broken }

-- behind a suspect, which counts only before the first such breach
abbrev pub suspected : Findings → Suspect → Findings
suspected findings suspect =
    if is_some findings.breach then findings else record findings { suspects = findings.suspects ++ suspect ∷ [] }

-- behind something that opened or was found equal: it was sealed or signed, or the node is no server, or the key has leaked
abbrev pub demanded : Findings → (made server leaked : Bool) → Suspect → Findings
demanded findings true server leaked suspect = findings
demanded findings false false leaked suspect = closed findings suspect.broken
demanded findings false true true suspect = findings
demanded findings false true false suspect = suspected findings suspect

-- behind a draw, which repeats one or not
abbrev pub drawn : Findings → (repeats : Bool) → Broken → Findings
drawn findings true broken = closed findings broken
drawn findings false broken = findings

-- the first suspect whose key didn't leak, else the breach
abbrev pub first_of : List Fact → List Suspect → Option Broken → Option Broken
first_of facts [] breach = breach
first_of facts (suspect ∷ suspects) breach =
    if is_kept facts (fact.LeakedKey suspect.key) then first_of facts suspects breach else Some suspect.broken

-- ---- what the findings mean

-- the keys that leaked in this log leaked in that one
pub record LeakIn (leaked : List Name) (log whole : List Logged) : Type 0 where
  pub each : (key : List ℕ) → IsLeakedKey leaked log key → IsLeakedKey leaked whole key

-- what suspects and a breach come to in the end: the first suspect whose key didn't leak in the whole log, else the breach
abbrev pub ComeTo : List Name → List Logged → List Suspect → Option Broken → Option Broken → Type 0
ComeTo leaked whole [] breach found = found ≡ breach
ComeTo leaked whole (suspect ∷ suspects) breach found =
    (IsLeakedKey leaked whole suspect.key × ComeTo leaked whole suspects breach found)
    ⊎ ((IsLeakedKey leaked whole suspect.key → ⊥) × (found ≡ Some suspect.broken))

-- what is found in the first entries of a whole log
abbrev pub IsFoundIn : List Name → (whole first : List Logged) → Option Broken → Type 0
IsFoundIn leaked whole first None =
    EachOnto (λ earlier at. Owes leaked whole at.node earlier at.entry) [] first × EachOnto (λ earlier at. IsNew earlier at.entry) [] first
IsFoundIn leaked whole first (Some broken) = IsFirstBreach leaked whole [] first broken

-- what these findings come to in the end is what is found in the log, however it goes on
pub record AreFound (leaked : List Name) (log : List Logged) (findings : Findings) : Type 0 where
  pub each : (whole : List Logged) (found : Option Broken) → LeakIn leaked log whole → ComeTo leaked whole findings.suspects findings.breach found → IsFoundIn leaked whole log found
