-- Which generations are still among the three newest, by what has expired.
use Rattle.std.proofs.Common.{◌≡◌, ◌⊎◌, ◌≤◌, ◌<◌, ◌+◌, ◌*◌, ◌==◌, ℕ, Bool, true, false, List, [], ◌∷◌, ◌++◌, Some, None, inl, inr, refl, sym, ap, subst, arith, eq-eqb}
use Rattle.std.specs.Prelude.{max, nat_lt, IsTrue, ◌||◌, if◌then◌else◌}
use Rattle.std.specs.List.{AllByRecursion}
use Rattle.std.proofs.lemmas.Bool.Decides.{nat_tests}
use Rattle.cx_journal.specs.KeepsKeys.{has_generation}
use Rattle.cx_laws_tickets.specs.cx_keyserver.specs.Issuing.{current_at}
use Rattle.cx_rotate.proofs.Results.{never_full}
use Rattle.cx_rotate.specs.Lawful.{IsPaced}
use Rattle.cx_rotate.specs.Rotation.{is_current, is_full}
use Rattle.cx_rotate.specs.declared.generations.Generation.{Generation}
use Rattle.cx_laws_tickets.specs.chain.Chain.{Added, AreSpaced, three_newest}
use Rattle.cx_laws_tickets.specs.fetch.Covered.{ArePaced, IsBeforeNewest}

module _ (life reading : ℕ) where
  abbrev AreUntil : List Added → Type 0
  AreUntil xs = AllByRecursion (λ (x : Added). x.reading ≤ reading) xs

  -- where two or more were added behind one, it has expired by now
  pub newest-expired : (u v : Added) (front : List Added) (newest second : Added) (older : List Added) → AreSpaced life (u ∷ v ∷ (front ++ newest ∷ second ∷ older))
      → AreUntil (u ∷ v ∷ (front ++ newest ∷ second ∷ older)) → newest.generation.expires ≤ reading
  newest-expired u v [] newest second older spaced until =
      let due : newest.generation.expires ≤ u.reading = spaced.0.2 in
      let soon : u.reading ≤ reading = until.0 in
      omega arith
  newest-expired u v (w ∷ front) newest second older spaced until = newest-expired v w front newest second older spaced.1 until.1

  -- ---- a generation among others

  pub has-first : (a b c : Generation) (id : ℕ) → a.id ≡ id → has_generation (a ∷ b ∷ c ∷ []) id ≡ true
  has-first a b c id same = rw (eq-eqb a.id id same) refl

  has-second-by : (first : Bool) (b c : Generation) (id : ℕ) → b.id ≡ id → (first || has_generation (b ∷ c ∷ []) id) ≡ true
  has-second-by true b c id same = refl
  has-second-by false b c id same = rw (eq-eqb b.id id same) refl

  pub has-second : (a b c : Generation) (id : ℕ) → b.id ≡ id → has_generation (a ∷ b ∷ c ∷ []) id ≡ true
  has-second a b c id same = has-second-by (a.id == id) b c id same

  has-third-by : (first second : Bool) (c : Generation) (id : ℕ) → c.id ≡ id → (first || (second || has_generation (c ∷ []) id)) ≡ true
  has-third-by true second c id same = refl
  has-third-by false true c id same = refl
  has-third-by false false c id same = rw (eq-eqb c.id id same) refl

  pub has-third : (a b c : Generation) (id : ℕ) → c.id ≡ id → has_generation (a ∷ b ∷ c ∷ []) id ≡ true
  has-third a b c id same = has-third-by (a.id == id) (b.id == id) c id same

  -- ---- the generation that was current when a ticket was made

  -- it is the second of the three newest, and was unexpired
  pub record IsSecond (now : ℕ) (xs : List Added) (of : Generation) : Type 0 where
    pub newest : Added
    pub second : Added
    pub third : Added
    pub older : List Added
    pub is : xs ≡ newest ∷ second ∷ third ∷ older
    pub of_is : second.generation ≡ of
    pub unexpired : now < second.generation.expires

  pub is-second : (now : ℕ) (xs : List Added) (of : Generation) → current_at now (three_newest xs) ≡ Some of → IsSecond now xs of
  is-second now [] of is = absurd cc
  is-second now (a ∷ []) of is = absurd cc
  is-second now (a ∷ b ∷ []) of is = absurd cc
  is-second now (a ∷ b ∷ c ∷ older) of is = by_test (nat_lt now b.generation.expires) refl is
    where
      by_test : (t : Bool) → nat_lt now b.generation.expires ≡ t → (if t then Some b.generation else None) ≡ Some of → IsSecond now (a ∷ b ∷ c ∷ older) of
      by_test true below found =
          record { newest = a; second = b; third = c; older = older; is = refl; of_is = cc; unexpired = grind (arith, nat_tests) }
      by_test false below found = absurd cc

  -- ---- a view, and a ticket of an earlier or a later generation

  -- the ticket is of the second of some, and the view has the three newest of these and of what was added behind them
  pub listed-earlier : (more : List Added) (newest second third : Added) (older : List Added) (id : ℕ) → second.generation.id ≡ id
      → AreSpaced life (more ++ newest ∷ second ∷ third ∷ older) → AreUntil (more ++ newest ∷ second ∷ third ∷ older) → (newest.generation.expires ≤ reading → ⊥)
      → has_generation (three_newest (more ++ newest ∷ second ∷ third ∷ older)) id ≡ true
  listed-earlier [] newest second third older id same spaced until lives = has-second third.generation second.generation newest.generation id same
  listed-earlier (y ∷ []) newest second third older id same spaced until lives = has-first second.generation newest.generation y.generation id same
  listed-earlier (u ∷ v ∷ front) newest second third older id same spaced until lives =
      absurd (lives (newest-expired u v front newest second (third ∷ older) spaced until))

  -- the view has the three newest of some, and the ticket is of the second of these and of what was added behind them
  pub listed-later : (more : List Added) (newest second third : Added) (older : List Added) (of : Generation) (now : ℕ)
      → current_at now (three_newest (more ++ newest ∷ second ∷ third ∷ older)) ≡ Some of
      → AreSpaced life (more ++ newest ∷ second ∷ third ∷ older) → AreUntil (more ++ newest ∷ second ∷ third ∷ older) → (newest.generation.expires ≤ reading → ⊥)
      → has_generation (three_newest (newest ∷ second ∷ third ∷ older)) of.id ≡ true
  listed-later [] newest second third older of now is spaced until lives = by_test (nat_lt now second.generation.expires) is
    where
      by_test : (t : Bool) → (if t then Some second.generation else None) ≡ Some of → has_generation (three_newest (newest ∷ second ∷ third ∷ older)) of.id ≡ true
      by_test true found = let same : second.generation ≡ of = cc in has-second third.generation second.generation newest.generation of.id (ap (λ (g : Generation). g.id) same)
      by_test false found = absurd cc
  listed-later (y ∷ []) newest second third older of now is spaced until lives = by_test (nat_lt now newest.generation.expires) is
    where
      by_test : (t : Bool) → (if t then Some newest.generation else None) ≡ Some of → has_generation (three_newest (newest ∷ second ∷ third ∷ older)) of.id ≡ true
      by_test true found = let same : newest.generation ≡ of = cc in has-third third.generation second.generation newest.generation of.id (ap (λ (g : Generation). g.id) same)
      by_test false found = absurd cc
  listed-later (u ∷ v ∷ front) newest second third older of now is spaced until lives =
      absurd (lives (newest-expired u v front newest second (third ∷ older) spaced until))

  -- ---- pace

  -- the second of the three newest expires a life or more before the newest
  pub three-paced : (xs : List Added) → AreSpaced life xs → ArePaced life (three_newest xs)
  three-paced [] spaced = tt
  three-paced (a ∷ []) spaced = tt
  three-paced (a ∷ b ∷ []) spaced = tt
  three-paced (a ∷ b ∷ c ∷ older) spaced = let next : a.generation.expires ≡ max (a.reading + life) b.generation.expires + life = spaced.0.1 in omega arith

  -- a life or more for each generation so far has passed at its expiry
  each-life : (x : Added) (older : List Added) → AreSpaced life (x ∷ older) → x.generation.id * life ≤ x.generation.expires
  each-life x [] spaced =
      let first : x.generation.id ≡ 1 = spaced.0.0 in
      let until : x.generation.expires ≡ x.reading + life = spaced.0.1 in
      rw first (omega arith)
  each-life x (y ∷ older) spaced =
      let rest : y.generation.id * life ≤ y.generation.expires = each-life y older spaced.1 in
      let next : x.generation.id ≡ y.generation.id + 1 = spaced.0.0 in
      let until : x.generation.expires ≡ max (x.reading + life) y.generation.expires + life = spaced.0.1 in
      rw next (omega arith)

  -- the third of the three newest expires within a life
  third-soon : (a b c : Added) (older : List Added) → AreSpaced life (a ∷ b ∷ c ∷ older) → AreUntil (a ∷ b ∷ c ∷ older) → c.generation.expires ≤ reading + life
  third-soon a b c [] spaced until =
      let first : c.generation.expires ≡ c.reading + life = spaced.1.1.0.1 in
      let soon : c.reading ≤ reading = until.1.1.0 in
      omega arith
  third-soon a b c (d ∷ older) spaced until =
      let due : c.generation.expires ≤ a.reading = spaced.0.2 in
      let soon : a.reading ≤ reading = until.0 in
      omega arith

  pub is-paced : (xs : List Added) → AreSpaced life xs → AreUntil xs → (three_newest xs ≡ [] → ⊥) → IsPaced reading life (three_newest xs)
  is-paced [] spaced until some = absurd (some refl)
  is-paced (a ∷ []) spaced until some = absurd (some refl)
  is-paced (a ∷ b ∷ []) spaced until some = absurd (some refl)
  is-paced (a ∷ b ∷ c ∷ older) spaced until some =
      let newest : a.generation.expires ≡ max (a.reading + life) b.generation.expires + life = spaced.0.1 in
      let second : b.generation.expires ≡ max (b.reading + life) c.generation.expires + life = spaced.1.0.1 in
      let third : c.generation.expires ≤ reading + life = third-soon a b c older spaced until in
      let last : a.reading ≤ reading = until.0 in
      let before : b.reading ≤ reading = until.1.0 in
      (omega arith, omega arith, each-life a (b ∷ c ∷ older) spaced)

  -- so the bounds are never reached
  pub not-full : (xs : List Added) → AreSpaced life xs → AreUntil xs → reading < 4000000000000000000 → 1000000000 ≤ life → life ≤ 31536000000000000
      → is_full (three_newest xs) ≡ false
  not-full [] spaced until early shortest longest = refl
  not-full (a ∷ []) spaced until early shortest longest = refl
  not-full (a ∷ b ∷ []) spaced until early shortest longest = refl
  not-full (a ∷ b ∷ c ∷ older) spaced until early shortest longest =
      never_full (three_newest (a ∷ b ∷ c ∷ older)) reading life (is-paced (a ∷ b ∷ c ∷ older) spaced until (λ none. absurd cc)) early shortest longest

  -- ---- how long the newest lives

  -- before the newest of three
  before-newest : (a b c : Generation) → IsBeforeNewest reading (a ∷ b ∷ c ∷ []) → reading < c.expires
  before-newest a b c ([], newest, is, below) = absurd cc
  before-newest a b c (x ∷ [], newest, is, below) = absurd cc
  before-newest a b c (x ∷ y ∷ [], newest, is, below) = let same : c ≡ newest = cc in subst (λ (g : Generation). reading < g.expires) (sym same) below
  before-newest a b c (x ∷ y ∷ z ∷ [], newest, is, below) = absurd cc
  before-newest a b c (x ∷ y ∷ z ∷ w ∷ more, newest, is, below) = absurd cc

  -- three of which the second was unexpired when they were told, a life or less ago, have a newest that lives; and so they have, where it is said
  pub newest-lives : (asked now : ℕ) (newest second third : Added) (older : List Added) → AreSpaced life (newest ∷ second ∷ third ∷ older) → asked ≤ now
      → IsTrue (is_current now (three_newest (newest ∷ second ∷ third ∷ older)))
      → (reading < asked + life) ⊎ IsBeforeNewest reading (three_newest (newest ∷ second ∷ third ∷ older)) → newest.generation.expires ≤ reading → ⊥
  newest-lives asked now newest second third older spaced later current (inl soon) gone =
      let next : newest.generation.expires ≡ max (newest.reading + life) second.generation.expires + life = spaced.0.1 in
      let test : nat_lt now second.generation.expires ≡ true = current in
      let lives : now < second.generation.expires = grind (arith, nat_tests) in
      omega arith
  newest-lives asked now newest second third older spaced later current (inr before) gone =
      let lives : reading < newest.generation.expires = before-newest third.generation second.generation newest.generation before in
      omega arith
