-- One id of a service's generations has one key for ever.
use Rattle.std.proofs.Common.{◌≡◌, ◌⊎◌, ◌≤◌, ◌<◌, ◌+◌, ◌==◌, ℕ, Bool, true, false, List, [], ◌∷◌, ◌++◌, Some, None, inl, inr, refl, sym, ap, ◌∙◌, subst, arith, eqb-true, eq-eqb}
use Rattle.std.specs.Prelude.{Contains, nat_lt, if◌then◌else◌}
use Rattle.std.specs.List.{AllByRecursion}
use Rattle.std.proofs.lemmas.List.Elements.{Contains-append_cases, Contains-push_cases}
use Rattle.cx_base.specs.declared.kinds.EntityType.{EntityType}
use Rattle.cx_laws_tickets.specs.cx_journal.specs.declared.entries.Entry.TheVariants as journal
use Rattle.cx_laws_tickets.specs.cx_journal.specs.declared.entries.Issued.{Issued}
use Rattle.cx_laws_tickets.specs.cx_keyserver.specs.Issuing.{current_at}
use Rattle.cx_rotate.specs.declared.generations.Generation.{Generation}
use Rattle.cx_laws_tickets.specs.cx_run.specs.Happenings.{Happening}
use Rattle.cx_laws_tickets.specs.cx_run.specs.Opening.{Setup}
use Rattle.cx_laws_tickets.specs.cx_run.specs.Points.{EachPoint, Point, entries_at, points}
use Rattle.cx_laws_tickets.proofs.chain.Points.{all-chained, spaced-behind}
use Rattle.cx_laws_tickets.specs.chain.Chain.{Added, AreSpaced, BecomesLost, BecomesSaved, Chain, Fate, HasChain, IsChained, IsOne, IsSealedUnder, IsUnderCurrent, KeepsGenerations, StaysInMemory, chain_behind, life_in, saved_past, three_newest}

-- ---- ids fall

AreLower : ℕ → List Added → Type 0
AreLower id xs = AllByRecursion (λ (x : Added). x.generation.id < id) xs

lower-still : (low high : ℕ) (xs : List Added) → low ≤ high → AreLower low xs → AreLower high xs
unfolding AreLower
lower-still low high [] le h = tt
lower-still low high (x ∷ xs) le h = (let below : x.generation.id < low = h.0 in omega arith, lower-still low high xs le h.1)

lower-older : (life : ℕ) (x : Added) (older : List Added) → AreSpaced life (x ∷ older) → AreLower x.generation.id older
unfolding AreLower
lower-older life x [] s = tt
lower-older life x (y ∷ older) s =
    let next : x.generation.id ≡ y.generation.id + 1 = s.0.0 in
    (omega arith, lower-still y.generation.id x.generation.id older (omega arith) (lower-older life y older s.1))

-- ---- one of each

-- of these this is the only one with this id
abbrev IsOnly : ℕ → Generation → List Added → Type 0
IsOnly id g xs = AllByRecursion (λ (x : Added). x.generation.id ≡ id → x.generation ≡ g) xs

only-behind : (id : ℕ) (g : Generation) (xs ys : List Added) → IsOnly id g (xs ++ ys) → IsOnly id g ys
only-behind id g [] ys h = h
only-behind id g (x ∷ xs) ys h = only-behind id g xs ys h.1

none-lower : (id : ℕ) (g : Generation) (xs : List Added) → AreLower id xs → IsOnly id g xs
unfolding AreLower
none-lower id g [] h = tt
none-lower id g (x ∷ xs) h = (λ same. absurd (let below : x.generation.id < id = h.0 in omega arith), none-lower id g xs h.1)

-- there is one, or none at all
has-only : (life id : ℕ) (xs : List Added) → AreSpaced life xs → (g : Generation) × IsOnly id g xs
has-only life id [] s = (record { id = id; key = []; expires = 0 }, tt)
has-only life id (x ∷ older) s = by_test (x.generation.id == id) refl (has-only life id older s.1)
  where
    by_test : (t : Bool) → (x.generation.id == id) ≡ t → (g : Generation) × IsOnly id g older → (g : Generation) × IsOnly id g (x ∷ older)
    by_test true is rest =
        let same : x.generation.id ≡ id = eqb-true x.generation.id id is in
        (x.generation, (λ _. refl, none-lower id x.generation older (subst (λ (n : ℕ). AreLower n older) same (lower-older life x older s))))
    by_test false is rest = (rest.0, (λ (same : x.generation.id ≡ id). absurd (differ (eq-eqb x.generation.id id same) is), rest.1))
      where
        differ : {t : Bool} → t ≡ true → t ≡ false → ⊥
        differ a b = cc

-- ---- the three newest

module _ (id : ℕ) (g : Generation) where
  contains-here : (h x : Generation) (xs : List Generation) → Contains (h ∷ xs) x → (h ≡ x → x.id ≡ id → x ≡ g) → (Contains xs x → x.id ≡ id → x ≡ g) → x.id ≡ id → x ≡ g
  contains-here h x xs has first rest same = by_place (Contains-append_cases (h ∷ []) xs x has)
    where
      by_one : Contains {X = Generation} [] x ⊎ (h ≡ x) → x ≡ g
      by_one (inl (k, below, is)) = absurd (omega arith)
      by_one (inr is) = first is same

      by_place : Contains (h ∷ []) x ⊎ Contains xs x → x ≡ g
      by_place (inl here) = by_one (Contains-push_cases [] h x here)
      by_place (inr later) = rest later same

  is-it : (y x : Generation) → (y.id ≡ id → y ≡ g) → y ≡ x → x.id ≡ id → x ≡ g
  is-it y x only is same = sym is ∙ only (ap (λ (h : Generation). h.id) is ∙ same)

  newest-only : (xs : List Added) → IsOnly id g xs → (x : Generation) → Contains (three_newest xs) x → x.id ≡ id → x ≡ g
  newest-only [] h x (k, below, is) same = absurd (omega arith)
  newest-only (a ∷ []) h x (k, below, is) same = absurd (omega arith)
  newest-only (a ∷ b ∷ []) h x (k, below, is) same = absurd (omega arith)
  newest-only (a ∷ b ∷ c ∷ older) h x has same =
      contains-here c.generation x (b.generation ∷ a.generation ∷ []) has (is-it c.generation x h.1.1.0)
      (λ more. contains-here b.generation x (a.generation ∷ []) more (is-it b.generation x h.1.0)
      (λ last. contains-here a.generation x [] last (is-it a.generation x h.0) (λ none. absurd (nothing none)))) same
    where
      nothing : Contains {X = Generation} [] x → ⊥
      nothing (k, below, is) = omega arith

  -- the one that is current is the second
  current-only : (now : ℕ) (xs : List Added) (x : Generation) → IsOnly id g xs → current_at now (three_newest xs) ≡ Some x → x.id ≡ id → x ≡ g
  current-only now [] x h is same = absurd cc
  current-only now (a ∷ []) x h is same = absurd cc
  current-only now (a ∷ b ∷ []) x h is same = absurd cc
  current-only now (a ∷ b ∷ c ∷ older) x h is same = by_test (nat_lt now b.generation.expires) is
    where
      by_test : (t : Bool) → (if t then Some b.generation else None) ≡ Some x → x ≡ g
      by_test true found = let second : b.generation ≡ x = cc in is-it b.generation x h.1.0 second same
      by_test false found = absurd cc

  under-only : (life : ℕ) (xs : List Added) (t : Issued) → IsOnly id g xs → t.generation ≡ id → IsUnderCurrent life (three_newest xs) t → IsSealedUnder g t
  under-only life xs t h same u = subst (λ (x : Generation). IsSealedUnder x t) (current-only t.created xs u.of h u.current (sym u.under.id ∙ same)) u.under

-- ---- a run

module _ (setup : Setup) (service : EntityType) (id : ℕ) (g : Generation) where
  abbrev SavesOnly : List Point → Point → Type 0
  SavesOnly older p = (x : Generation) → Contains (saved_past service p) x → x.id ≡ id → x ≡ g

  abbrev IssuesUnder : List Point → Point → Type 0
  IssuesUnder older p = (t : Issued) → Contains (entries_at p) (journal.Issued t) → t.service ≡ service → t.generation ≡ id → IsSealedUnder g t

  -- of what is kept behind a point, what was kept before it
  only-before : (fate : Fate) (added : List Added) (before : Chain) → IsOnly id g (chain_behind fate added before).kept → IsOnly id g before.kept
  only-before StaysInMemory added before h = h
  only-before BecomesSaved added before h = only-behind id g before.unsaved before.kept (only-behind id g added (before.unsaved ++ before.kept) h)
  only-before BecomesLost added before h = h

  only-points : (past : List Point) (c : Chain) → IsChained setup service past c → IsOnly id g c.kept → EachPoint SavesOnly past × EachPoint IssuesUnder past
  only-points [] c is h = (tt, tt)
  only-points (p ∷ older) c (before, earlier, m) h =
      let rest = only-points older before earlier (only-before m.fate m.added before (subst (λ (k : Chain). IsOnly id g k.kept) m.behind_is h)) in (
        (λ x has same. newest-only id g c.kept h x (subst (λ (gs : List Generation). Contains gs x) m.saved has) same, rest.0),
        (λ t has of same. under-only id g (life_in setup service) c.kept t h same (m.issued t has of).0, rest.1),
      )

all-one : (setup : Setup) (hs : List Happening) (service : EntityType) (id : ℕ) → IsOne service id (points setup hs)
all-one setup hs service id =
    let c : HasChain setup service (points setup hs) = all-chained setup hs service in
    let only = has-only (life_in setup service) id c.chain.kept (spaced-behind (life_in setup service) c.chain.unsaved c.chain.kept c.spaced) in
    let both = only-points setup service id only.0 (points setup hs) c.chain c.chained only.1 in
    record { generation = only.0; saved = both.0; issued = both.1 }

pub all-kept : (setup : Setup) (hs : List Happening) → KeepsGenerations setup hs
all-kept setup hs = record { chained = all-chained setup hs; one = all-one setup hs }
