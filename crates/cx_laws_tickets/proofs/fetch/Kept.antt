-- What was ever saved of a service's generations, at one point and at later ones.
use Rattle.std.proofs.Common.{◌≡◌, ◌≤◌, ℕ, List, [], ◌∷◌, ◌++◌, inl, inr, sym, subst, append_assoc, arith}
use Rattle.std.specs.List.{AllByRecursion}
use Rattle.cx_base.specs.declared.kinds.EntityType.{EntityType}
use Rattle.cx_base.specs.declared.nodes.NodeName.TheVariants as node
use Rattle.cx_laws_tickets.specs.cx_run.specs.Opening.{Setup}
use Rattle.cx_laws_tickets.specs.cx_run.specs.Points.{Before, EachPoint, Point}
use Rattle.cx_laws_tickets.specs.chain.Chain.{Added, BecomesLost, BecomesSaved, Chain, Fate, IsAddedAt, IsChained, MovesOn, StaysInMemory, all_in, chain_behind}
use Rattle.cx_laws_tickets.specs.cx_laws_keys.proofs.keys.Lists.{all-append, all-map}
use Rattle.cx_laws_tickets.specs.cx_laws_keys.proofs.keys.Uses.{Extends, extends-itself, extends-then}

-- what was saved stays saved
kept-behind : (fate : Fate) (added : List Added) (before : Chain) → Extends before.kept (chain_behind fate added before).kept
kept-behind StaysInMemory added before = extends-itself before.kept
kept-behind BecomesSaved added before = record { more = added ++ before.unsaved; is = sym (append_assoc added before.unsaved before.kept) }
kept-behind BecomesLost added before = extends-itself before.kept

module _ (setup : Setup) (service : EntityType) where
  pub kept-grows : (p : Point) (before behind : Chain) → MovesOn setup service p before behind → Extends before.kept behind.kept
  kept-grows p before behind m = subst (λ (c : Chain). Extends before.kept c.kept) (sym m.behind_is) (kept-behind m.fate m.added before)

  -- one of some points, with the chain before and behind it; what is kept behind the last of them is what is kept behind that one, and more
  pub record StandsAt (Q : List Point → Point → Type 0) (last : Chain) : Type 0 where
    pub older : List Point
    pub at : Point
    pub holds : Q older at
    pub before : Chain
    pub behind : Chain
    pub moves : MovesOn setup service at before behind
    pub kept : Extends behind.kept last.kept

  pub stands-at : (Q : List Point → Point → Type 0) (past : List Point) (last : Chain) → IsChained setup service past last → Before Q past → StandsAt Q last
  stands-at Q [] last chained h = absurd h
  stands-at Q (p ∷ past) last (before, earlier, m) (inl h) =
      record { older = past; at = p; holds = h; before = before; behind = last; moves = m; kept = extends-itself last.kept }
  stands-at Q (p ∷ past) last (before, earlier, m) (inr h) =
      let s : StandsAt Q before = stands-at Q past before earlier h in
      record {
        older = s.older;
        at = s.at;
        holds = s.holds;
        before = s.before;
        behind = s.behind;
        moves = s.moves;
        kept = extends-then s.behind.kept before.kept last.kept s.kept (kept-grows p before last m);
      }

  -- ---- readings

  -- no event of the monitor at these points has a reading above this one
  abbrev pub MonitorUntil : ℕ → List Point → Type 0
  MonitorUntil reading past = EachPoint (λ older p. p.happening.node ≡ node.Monitor → p.happening.reading ≤ reading) past

  -- nor was any of these added at one
  abbrev pub AreAddedUntil : ℕ → List Added → Type 0
  AreAddedUntil reading xs = AllByRecursion (λ (x : Added). x.reading ≤ reading) xs

  pub added-behind : (reading : ℕ) (xs ys : List Added) → AreAddedUntil reading (xs ++ ys) → AreAddedUntil reading ys
  added-behind reading [] ys h = h
  added-behind reading (x ∷ xs) ys h = added-behind reading xs ys h.1

  all-behind : (reading : ℕ) (fate : Fate) (added : List Added) (before : Chain) → AreAddedUntil reading added → AreAddedUntil reading (all_in before)
      → AreAddedUntil reading (all_in (chain_behind fate added before))
  all-behind reading StaysInMemory added before here h =
      subst (AreAddedUntil reading) (sym (append_assoc added before.unsaved before.kept)) (all-append (λ (x : Added). x.reading ≤ reading) added (all_in before) here h)
  all-behind reading BecomesSaved added before here h = all-append (λ (x : Added). x.reading ≤ reading) added (all_in before) here h
  all-behind reading BecomesLost added before here h = added-behind reading before.unsaved before.kept h

  all-until : (reading : ℕ) (past : List Point) (last : Chain) → IsChained setup service past last → MonitorUntil reading past → AreAddedUntil reading (all_in last)
  all-until reading [] last chained until = subst (λ (c : Chain). AreAddedUntil reading (all_in c)) (sym chained) tt
  all-until reading (p ∷ past) last (before, earlier, m) until =
      let here : AreAddedUntil reading m.added =
      all-map (IsAddedAt service p) (λ (x : Added). x.reading ≤ reading) (λ x at. let below : p.happening.reading ≤ reading = until.0 at.monitor in let same : x.reading ≡ p.happening.reading = at.reading in omega arith)
      m.added m.here in
      subst (λ (c : Chain). AreAddedUntil reading (all_in c)) (sym m.behind_is)
      (all-behind reading m.fate m.added before here (all-until reading past before earlier until.1))

  pub kept-until : (reading : ℕ) (past : List Point) (last : Chain) → IsChained setup service past last → MonitorUntil reading past → AreAddedUntil reading last.kept
  kept-until reading past last chained until = added-behind reading last.unsaved last.kept (all-until reading past last chained until)
