-- The first breach of a premise in a log.
use Rattle.std.specs.Prelude.{◌≡◌, List, [], ◌∷◌, ◌⊎◌, Option, Some, None}
use Rattle.cx_base.specs.Names.{Name}
use Rattle.cx_journal.specs.declared.premises.Broken.{Broken}
use Rattle.cx_journal.specs.declared.premises.KeyKind.{KeyKind}
use Rattle.cx_journal.specs.declared.premises.KeyKind.TheVariants as kind
use Rattle.cx_journal.specs.declared.premises.Premise.{Premise}
use Rattle.cx_journal.specs.declared.premises.Premise.TheVariants as premise
use Rattle.cx_steps.specs.Premises.{Owes, IsNew, IsSound, IsFresh}
use Rattle.cx_steps.specs.declared.seals.DrawMark.{DrawMark}
use Rattle.cx_steps.specs.declared.seals.DrawMark.TheVariants as draw
use Rattle.cx_steps.specs.declared.seals.Logged.{Logged}
use Rattle.cx_steps.specs.declared.seals.SealEntry.{SealEntry}
use Rattle.cx_steps.specs.declared.seals.SealEntry.TheVariants as entry

-- the kind of what was drawn
abbrev pub drawn_kind : DrawMark → KeyKind
drawn_kind (draw.Principal secret whose) = kind.Principal
drawn_kind (draw.Connection secret whose) = kind.Connection
drawn_kind (draw.Session key whose) = kind.Session
drawn_kind (draw.Rotation key) = kind.Rotation
drawn_kind (draw.Challenge value) = kind.Challenge
drawn_kind (draw.Nonce value) = kind.Nonce
drawn_kind (draw.Cookie value) = kind.Cookie

-- the kind of what an entry speaks of
abbrev pub kind_of : SealEntry → KeyKind
kind_of (entry.Sealed mark) = mark.kind
kind_of (entry.Opened mark) = mark.kind
kind_of (entry.Signed mark) = mark.kind
kind_of (entry.Checked mark) = mark.kind
kind_of (entry.Drawn mark) = drawn_kind mark

module _ (leaked : List Name) (log : List Logged) where
  -- the entry keeps the premise, behind the earlier ones, the newest of these first
  abbrev pub Keeps : Premise → List Logged → Logged → Type 0
  Keeps premise.Sealing earlier at = Owes leaked log at.node earlier at.entry
  Keeps premise.Draw earlier at = IsNew earlier at.entry

  -- the entry breaks the premise, and its node, kind and line are told
  pub record IsBreach (earlier : List Logged) (at : Logged) (broken : Broken) : Type 0 where
    pub breaks : Keeps broken.why earlier at → ⊥
    pub node : broken.node ≡ at.node
    pub kind : broken.kind ≡ kind_of at.entry
    pub line : broken.line ≡ at.line

  -- the first of these entries, behind the earlier ones, that breaks a premise is told
  abbrev pub IsFirstBreach : List Logged → List Logged → Broken → Type 0
  IsFirstBreach earlier [] broken = ⊥
  IsFirstBreach earlier (at ∷ rest) broken =
      IsBreach earlier at broken
      ⊎ (Keeps premise.Sealing earlier at × Keeps premise.Draw earlier at × IsFirstBreach (at ∷ earlier) rest broken)

-- what is found in a log, where these clients leaked: nothing exactly where it is sound and fresh, else its first breach
abbrev pub IsFound : List Name → List Logged → Option Broken → Type 0
IsFound leaked log None = IsSound leaked log × IsFresh log
IsFound leaked log (Some broken) = IsFirstBreach leaked log [] log broken
