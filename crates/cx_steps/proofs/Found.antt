-- One thing at most is found in a log.
use Rattle.std.proofs.Common.{◌≡◌, ℕ, List, [], ◌∷◌, Option, Some, None, inl, inr, refl, sym, ◌∙◌, ap}
use Rattle.cx_base.specs.Names.{Name}
use Rattle.cx_base.specs.declared.nodes.NodeName.{NodeName}
use Rattle.cx_journal.specs.declared.premises.Broken.{Broken}
use Rattle.cx_journal.specs.declared.premises.KeyKind.{KeyKind}
use Rattle.cx_journal.specs.declared.premises.Premise.{Premise}
use Rattle.cx_journal.specs.declared.premises.Premise.TheVariants as premise
use Rattle.cx_steps.specs.Onto.{EachOnto}
use Rattle.cx_steps.specs.Premises.{Owes, IsNew}
use Rattle.cx_steps.specs.Breach.{Keeps, IsBreach, IsFirstBreach, IsFound}
use Rattle.cx_steps.specs.declared.seals.Logged.{Logged}
use Rattle.cx_steps.specs.declared.seals.SealEntry.{SealEntry}
use Rattle.cx_steps.specs.declared.seals.SealEntry.TheVariants as entry

same_parts : (a b : Broken) → a.why ≡ b.why → a.node ≡ b.node → a.kind ≡ b.kind → a.line ≡ b.line → a ≡ b
same_parts a b why node kind line =
    let with_why : Premise → Broken = λ p. record { why = p; node = a.node; kind = a.kind; line = a.line } in
    let with_node : NodeName → Broken = λ n. record { why = b.why; node = n; kind = a.kind; line = a.line } in
    let with_kind : KeyKind → Broken = λ k. record { why = b.why; node = b.node; kind = k; line = a.line } in
    let with_line : ℕ → Broken = λ l. record { why = b.why; node = b.node; kind = b.kind; line = l } in
    ap with_why why ∙ ap with_node node ∙ ap with_kind kind ∙ ap with_line line

module _ (leaked : List Name) (log : List Logged) where
  kept : (p : Premise) (earlier : List Logged) (at : Logged) → Keeps leaked log premise.Sealing earlier at → Keeps leaked log premise.Draw earlier at → Keeps leaked log p earlier at
  kept premise.Sealing earlier at owed new = owed
  kept premise.Draw earlier at owed new = new

  -- an entry breaks one premise at most
  one_kept : (node : NodeName) (earlier : List Logged) (e : SealEntry) → (Owes leaked log node earlier e → ⊥) → (IsNew earlier e → ⊥) → ⊥
  one_kept node earlier (entry.Sealed _) owes new = owes tt
  one_kept node earlier (entry.Opened _) owes new = new tt
  one_kept node earlier (entry.Signed _) owes new = owes tt
  one_kept node earlier (entry.Checked _) owes new = new tt
  one_kept node earlier (entry.Drawn _) owes new = owes tt

  one_why : (p q : Premise) (earlier : List Logged) (at : Logged) → (Keeps leaked log p earlier at → ⊥) → (Keeps leaked log q earlier at → ⊥) → p ≡ q
  one_why premise.Sealing premise.Sealing earlier at first second = refl
  one_why premise.Draw premise.Draw earlier at first second = refl
  one_why premise.Sealing premise.Draw earlier at first second = absurd (one_kept at.node earlier at.entry first second)
  one_why premise.Draw premise.Sealing earlier at first second = absurd (one_kept at.node earlier at.entry second first)

  same_breach : (earlier : List Logged) (at : Logged) (a b : Broken) → IsBreach leaked log earlier at a → IsBreach leaked log earlier at b → a ≡ b
  same_breach earlier at a b first second =
      same_parts a b (one_why a.why b.why earlier at first.breaks second.breaks) (first.node ∙ sym second.node) (first.kind ∙ sym second.kind) (first.line ∙ sym second.line)

  clean : (earlier rest : List Logged) (b : Broken) → EachOnto (λ es at. Owes leaked log at.node es at.entry) earlier rest → EachOnto (λ es at. IsNew es at.entry) earlier rest → IsFirstBreach leaked log earlier rest b → ⊥
  clean earlier [] b sound fresh found = found
  clean earlier (at ∷ rest) b sound fresh (inl breach) = breach.breaks (kept b.why earlier at sound.0 fresh.0)
  clean earlier (at ∷ rest) b sound fresh (inr later) = clean (at ∷ earlier) rest b sound.1 fresh.1 later.2

  one_breach : (earlier rest : List Logged) (a b : Broken) → IsFirstBreach leaked log earlier rest a → IsFirstBreach leaked log earlier rest b → a ≡ b
  one_breach earlier [] a b first second = absurd first
  one_breach earlier (at ∷ rest) a b (inl first) (inl second) = same_breach earlier at a b first second
  one_breach earlier (at ∷ rest) a b (inl first) (inr second) = absurd (first.breaks (kept a.why earlier at second.0 second.1))
  one_breach earlier (at ∷ rest) a b (inr first) (inl second) = absurd (second.breaks (kept b.why earlier at first.0 first.1))
  one_breach earlier (at ∷ rest) a b (inr first) (inr second) = one_breach (at ∷ earlier) rest a b first.2 second.2

pub one_found : (leaked : List Name) (log : List Logged) (a b : Option Broken) → IsFound leaked log a → IsFound leaked log b → a ≡ b
one_found leaked log None None first second = refl
one_found leaked log None (Some b) first second = absurd (clean leaked log [] log b first.0 first.1 second)
one_found leaked log (Some a) None first second = absurd (clean leaked log [] log a second.0 second.1 first)
one_found leaked log (Some a) (Some b) first second = ap Some (one_breach leaked log [] log a b first second)
