-- The two premises of a run, as each entry of its log needs them. Here alone the whole log is looked at.
use Rattle.std.proofs.Common.{◌≡◌, ◌⊎◌, ℕ, List, [], ◌∷◌, ◌++◌, map, take, Option, Some, None, inl, inr, refl}
use Rattle.std.specs.Prelude.{Contains}
use Rattle.cx_base.specs.Names.{Name}
use Rattle.cx_base.specs.declared.nodes.NodeName.{NodeName}
use Rattle.cx_steps.specs.Draws.{IsSameKey, for_whom, key_of, Repeats}
use Rattle.cx_steps.specs.Onto.{SomeOf, EachOnto}
use Rattle.cx_steps.specs.Premises.{DrawsLeaked, IsFresh, IsLeakedKey, IsNew, IsSound, Owes, RepeatsIn}
use Rattle.cx_steps.specs.declared.seals.DrawMark.{DrawMark}
use Rattle.cx_steps.specs.declared.seals.DrawMark.TheVariants as draw
use Rattle.cx_steps.specs.declared.seals.Logged.{Logged}
use Rattle.cx_steps.specs.declared.seals.SealEntry.{SealEntry}
use Rattle.cx_steps.specs.declared.seals.SealEntry.TheVariants as entry
use Rattle.cx_laws_keys.proofs.keys.Lists.{some-map}

-- ---- what is granted to each entry

-- a key that is drawn here, and leaked at any place of the log, was drawn for a leaked client
abbrev pub TellsLeak : List Name → List Logged → SealEntry → Type 0
TellsLeak leaked whole (entry.Drawn mark) =
    (key : List ℕ) → key_of mark ≡ Some key → IsLeakedKey leaked whole key → (name : Name) × (for_whom mark ≡ Some name) × Contains leaked name
TellsLeak leaked whole _ = Unit {0}

pub record IsGranted (leaked : List Name) (whole earlier : List Logged) (at : Logged) : Type 0 where
  pub owes : Owes leaked whole at.node earlier at.entry
  pub new : IsNew earlier at.entry
  pub leak : TellsLeak leaked whole at.entry

abbrev pub logged : NodeName → ℕ → SealEntry → Logged
logged n line e = record { node = n; line = line; entry = e }

-- the log behind the entries of a node at a line
abbrev pub behind : NodeName → ℕ → List SealEntry → List Logged → List Logged
behind n line [] log = log
behind n line (e ∷ es) log = behind n line es (logged n line e ∷ log)

abbrev pub AreGranted : List Name → List Logged → NodeName → ℕ → List Logged → List SealEntry → Type 0
AreGranted leaked whole n line log [] = Unit {0}
AreGranted leaked whole n line log (e ∷ es) = IsGranted leaked whole log (logged n line e) × AreGranted leaked whole n line (logged n line e ∷ log) es

pub behind-append : (n : NodeName) (line : ℕ) (xs ys : List SealEntry) (log : List Logged) → behind n line (xs ++ ys) log ≡ behind n line ys (behind n line xs log)
behind-append n line [] ys log = refl
behind-append n line (x ∷ xs) ys log = behind-append n line xs ys (logged n line x ∷ log)

module _ (leaked : List Name) (whole : List Logged) (n : NodeName) (line : ℕ) where
  pub granted-first : (log : List Logged) (xs ys : List SealEntry) → AreGranted leaked whole n line log (xs ++ ys) → AreGranted leaked whole n line log xs
  granted-first log [] ys g = tt
  granted-first log (x ∷ xs) ys g = (g.0, granted-first (logged n line x ∷ log) xs ys g.1)

  pub granted-rest : (log : List Logged) (xs ys : List SealEntry) → AreGranted leaked whole n line log (xs ++ ys)
      → AreGranted leaked whole n line (behind n line xs log) ys
  granted-rest log [] ys g = g
  granted-rest log (x ∷ xs) ys g = granted-rest (logged n line x ∷ log) xs ys g.1

  -- the entries of a step, of all that are to come
  pub granted-step : (log : List Logged) (es : List SealEntry) (rest : List Logged) → EachOnto (IsGranted leaked whole) log (map (λ e. logged n line e) es ++ rest)
      → AreGranted leaked whole n line log es × EachOnto (IsGranted leaked whole) (behind n line es log) rest
  granted-step log [] rest g = (tt, g)
  granted-step log (e ∷ es) rest g = let more = granted-step (logged n line e ∷ log) es rest g.1 in ((g.0, more.0), more.1)

-- ---- from the whole log

-- two draws of one key are the same draw
same_key : (a b : DrawMark) (key : List ℕ) → key_of a ≡ Some key → key_of b ≡ Some key → Repeats a b
same_key a b key p q = by_first a p
  where
    keys : (x y : Option (List ℕ)) → x ≡ Some key → y ≡ Some key → IsSameKey x y
    keys (Some x) (Some y) e f = cc
    keys (Some x) None e f = absurd cc
    keys None y e f = absurd cc

    by_first : (c : DrawMark) → key_of c ≡ Some key → Repeats c b
    by_first (draw.Principal secret for) e = keys (Some secret) (key_of b) e q
    by_first (draw.Connection secret for) e = keys (Some (take 16 secret)) (key_of b) e q
    by_first (draw.Session k for) e = keys (Some k) (key_of b) e q
    by_first (draw.Rotation k) e = keys (Some k) (key_of b) e q
    by_first (draw.Challenge v) e = absurd cc
    by_first (draw.Nonce v) e = absurd cc
    by_first (draw.Cookie v) e = absurd cc

abbrev pub DrawsKey : List ℕ → SealEntry → Type 0
DrawsKey key (entry.Drawn mark) = key_of mark ≡ Some key
DrawsKey key _ = ⊥

pub key-repeats : (key : List ℕ) (mark : DrawMark) (e : SealEntry) → key_of mark ≡ Some key → DrawsKey key e → RepeatsIn mark e
key-repeats key mark (entry.Drawn other) p d = same_key other mark key d p
key-repeats key mark (entry.Sealed m) p d = absurd d
key-repeats key mark (entry.Opened m) p d = absurd d
key-repeats key mark (entry.Signed m) p d = absurd d
key-repeats key mark (entry.Checked m) p d = absurd d

-- what is new draws no key that was drawn before
pub new-key : (key : List ℕ) (earlier : List Logged) (e : SealEntry) → IsNew earlier e → DrawsKey key e → SomeOf (λ (at : Logged). DrawsKey key at.entry) earlier → ⊥
new-key key earlier (entry.Drawn mark) fresh d before =
    fresh (some-map (λ (at : Logged). DrawsKey key at.entry) (λ (at : Logged). RepeatsIn mark at.entry) (λ at h. key-repeats key mark at.entry d h) earlier before)
new-key key earlier (entry.Sealed m) fresh d before = d
new-key key earlier (entry.Opened m) fresh d before = d
new-key key earlier (entry.Signed m) fresh d before = d
new-key key earlier (entry.Checked m) fresh d before = d

no_later : (key : List ℕ) (earlier rest : List Logged) → EachOnto (λ es (at : Logged). IsNew es at.entry) earlier rest
    → SomeOf (λ (at : Logged). DrawsKey key at.entry) earlier → SomeOf (λ (at : Logged). DrawsKey key at.entry) rest → ⊥
no_later key earlier [] fresh before later = later
no_later key earlier (x ∷ xs) fresh before (inl here) = new-key key earlier x.entry fresh.0 here before
no_later key earlier (x ∷ xs) fresh before (inr later) = no_later key (x ∷ earlier) xs fresh.1 (inr before) later

module _ (leaked : List Name) (whole : List Logged) where
  abbrev Leaks : List ℕ → Logged → Type 0
  Leaks key at = DrawsLeaked leaked key at.entry

  leak-draws : (key : List ℕ) (e : SealEntry) → DrawsLeaked leaked key e → DrawsKey key e
  leak-draws key (entry.Drawn mark) h = h.0
  leak-draws key (entry.Sealed m) h = h
  leak-draws key (entry.Opened m) h = h
  leak-draws key (entry.Signed m) h = h
  leak-draws key (entry.Checked m) h = h

  leaks-draw : (key : List ℕ) (xs : List Logged) → SomeOf (Leaks key) xs → SomeOf (λ (at : Logged). DrawsKey key at.entry) xs
  leaks-draw key xs h = some-map (Leaks key) (λ (at : Logged). DrawsKey key at.entry) (λ at d. leak-draws key at.entry d) xs h

  leak_of : (earlier xs : List Logged) (e : SealEntry) → IsNew earlier e
      → ((key : List ℕ) → DrawsKey key e → SomeOf (λ (at : Logged). DrawsKey key at.entry) xs → ⊥)
      → ((key : List ℕ) → IsLeakedKey leaked whole key → SomeOf (Leaks key) earlier ⊎ (DrawsLeaked leaked key e ⊎ SomeOf (Leaks key) xs))
      → TellsLeak leaked whole e
  leak_of earlier xs (entry.Drawn mark) fresh apart split = λ key is leak. by_place key is (split key leak)
    where
      by_place : (key : List ℕ) → key_of mark ≡ Some key → SomeOf (Leaks key) earlier ⊎ (DrawsLeaked leaked key (entry.Drawn mark) ⊎ SomeOf (Leaks key) xs)
          → (name : Name) × (for_whom mark ≡ Some name) × Contains leaked name
      by_place key is (inl before) = absurd (new-key key earlier (entry.Drawn mark) fresh is (leaks-draw key earlier before))
      by_place key is (inr (inl here)) = (here.1, here.2, here.3)
      by_place key is (inr (inr later)) = absurd (apart key is (leaks-draw key xs later))
  leak_of earlier xs (entry.Sealed m) fresh apart split = tt
  leak_of earlier xs (entry.Opened m) fresh apart split = tt
  leak_of earlier xs (entry.Signed m) fresh apart split = tt
  leak_of earlier xs (entry.Checked m) fresh apart split = tt

  grants : (earlier rest : List Logged) → EachOnto (λ es (at : Logged). Owes leaked whole at.node es at.entry) earlier rest
      → EachOnto (λ es (at : Logged). IsNew es at.entry) earlier rest
      → ((key : List ℕ) → IsLeakedKey leaked whole key → SomeOf (Leaks key) earlier ⊎ SomeOf (Leaks key) rest)
      → EachOnto (IsGranted leaked whole) earlier rest
  grants earlier [] sound fresh split = tt
  grants earlier (x ∷ xs) sound fresh split = (
    record {
      owes = sound.0;
      new = fresh.0;
      leak = leak_of earlier xs x.entry fresh.0 (λ key here later. no_later key (x ∷ earlier) xs fresh.1 (inl here) later) split;
    },
    grants (x ∷ earlier) xs sound.1 fresh.1 (λ key leak. moved key (split key leak)),
  )
    where
      moved : (key : List ℕ) → SomeOf (Leaks key) earlier ⊎ SomeOf (Leaks key) (x ∷ xs) → SomeOf (Leaks key) (x ∷ earlier) ⊎ SomeOf (Leaks key) xs
      moved key (inl before) = inl (inr before)
      moved key (inr (inl here)) = inl (inl here)
      moved key (inr (inr later)) = inr later

-- a sound and fresh log grants all to each of its entries
pub all-granted : (leaked : List Name) (whole : List Logged) → IsSound leaked whole → IsFresh whole → EachOnto (IsGranted leaked whole) [] whole
all-granted leaked whole sound fresh = grants leaked whole [] whole sound fresh (λ key leak. inr leak)
