-- What a rotation adds to the generations of a service.
use Rattle.std.proofs.Common.{◌≡◌, ◌≤◌, ◌+◌, ◌*◌, ℕ, Bool, true, false, List, [], ◌∷◌, ◌++◌, refl, arith, cond, Some, None, take}
use Rattle.std.specs.Prelude.{Contains, max, nat_lt, unwrap_or, if◌then◌else◌}
use Rattle.std.specs.List.{AllByRecursion}
use Rattle.std.proofs.lemmas.Bool.{ltb-false}
use Rattle.cx_rotate.specs.Rotation.{grown, is_full, rotated}
use Rattle.cx_rotate.specs.declared.generations.Generation.{Generation}
use Rattle.cx_laws_tickets.specs.chain.Chain.{Added, AreSpaced, Follows, three_newest}

-- none, or three at least
abbrev pub AreThree : List Added → Type 0
AreThree [] = Unit {0}
AreThree (x ∷ y ∷ z ∷ older) = Unit {0}
AreThree _ = ⊥

-- what a rotation at this reading with these keys adds to these
pub record Rotates (now life : ℕ) (keys : List (List ℕ)) (xs : List Added) : Type 0 where
  pub more : List Added
  pub at : AllByRecursion (λ (x : Added). x.reading ≡ now) more
  pub keyed : AllByRecursion (λ (x : Added). Contains keys x.generation.key) more
  pub spaced : AreSpaced life (more ++ xs)
  pub three : AreThree (more ++ xs)
  pub newest : three_newest (more ++ xs) ≡ rotated now life keys (three_newest xs)

module _ (now life : ℕ) (j k l : List ℕ) where
  abbrev three_keys : List (List ℕ)
  three_keys = j ∷ k ∷ l ∷ []

  -- ---- the first three

  abbrev opener : List ℕ → ℕ → Added
  opener key id = record { generation = record { id = id; key = key; expires = now + id * life }; reading = now }

  rotates-first : Rotates now life three_keys []
  rotates-first = by_test (nat_lt now (now + 2 * life)) refl
    where
      by_test : (t : Bool) → nat_lt now (now + 2 * life) ≡ t → Rotates now life three_keys []
      by_test true is = record {
        more = opener l 3 ∷ opener k 2 ∷ opener j 1 ∷ [];
        at = (refl, (refl, (refl, tt)));
        keyed = ((2, omega arith, refl), ((1, omega arith, refl), ((0, omega arith, refl), tt)));
        spaced = ((refl, omega arith, tt), ((refl, omega arith, tt), ((refl, omega arith), tt)));
        three = tt;
        newest = rw is refl;
      }
      by_test false is = record { more = []; at = tt; keyed = tt; spaced = tt; three = tt; newest = rw is refl }

  -- ---- behind three

  module _ (a b c : Added) (older : List Added) (spaced : AreSpaced life (c ∷ b ∷ a ∷ older)) where
    abbrev old : List Added
    old = c ∷ b ∷ a ∷ older

    abbrev behind : Generation → List ℕ → Added
    behind newest key = record { generation = record { id = newest.id + 1; key = key; expires = max (now + life) newest.expires + life }; reading = now }

    abbrev d : Added
    d = behind c.generation j

    abbrev e : Added
    e = behind d.generation k

    abbrev f : Added
    f = behind e.generation l

    -- so many are added
    abbrev adds : ℕ → List Generation
    adds n = grown now life (take n three_keys) (three_newest old)

    record Adds (n : ℕ) : Type 0 where
      more : List Added
      at : AllByRecursion (λ (x : Added). x.reading ≡ now) more
      keyed : AllByRecursion (λ (x : Added). Contains three_keys x.generation.key) more
      spaced_all : AreSpaced life (more ++ old)
      three : AreThree (more ++ old)
      newest : three_newest (more ++ old) ≡ adds n

    adds-none : Adds 0
    adds-none = record { more = []; at = tt; keyed = tt; spaced_all = spaced; three = tt; newest = refl }

    -- one is added where the second has expired, and each more where the next one has
    d-follows : b.generation.expires ≤ now → Follows life d old
    d-follows late = (refl, refl, late)

    e-follows : c.generation.expires ≤ now → Follows life e (d ∷ old)
    e-follows late = (refl, refl, late)

    f-follows : d.generation.expires ≤ now → Follows life f (e ∷ d ∷ old)
    f-follows late = (refl, refl, late)

    adds-one : b.generation.expires ≤ now → Adds 1
    adds-one late = record {
      more = d ∷ [];
      at = (refl, tt);
      keyed = ((0, omega arith, refl), tt);
      spaced_all = (d-follows late, spaced);
      three = tt;
      newest = refl;
    }

    adds-two : b.generation.expires ≤ now → c.generation.expires ≤ now → Adds 2
    adds-two late later = record {
      more = e ∷ d ∷ [];
      at = (refl, (refl, tt));
      keyed = ((1, omega arith, refl), ((0, omega arith, refl), tt));
      spaced_all = (e-follows later, (d-follows late, spaced));
      three = tt;
      newest = refl;
    }

    adds-three : b.generation.expires ≤ now → c.generation.expires ≤ now → d.generation.expires ≤ now → Adds 3
    adds-three late later last = record {
      more = f ∷ e ∷ d ∷ [];
      at = (refl, (refl, (refl, tt)));
      keyed = ((2, omega arith, refl), ((1, omega arith, refl), ((0, omega arith, refl), tt)));
      spaced_all = (f-follows last, (e-follows later, (d-follows late, spaced)));
      three = tt;
      newest = refl;
    }

    -- how many: the least number with which the second is unexpired
    abbrev count_by : Bool → Bool → Bool → Bool → Bool → ℕ
    count_by full none one two three =
        if full then 0 else unwrap_or (cond none (Some 0) (cond one (Some 1) (cond two (Some 2) (cond three (Some 3) None)))) 0

    by_count : (full none one two three : Bool) → nat_lt now b.generation.expires ≡ none → nat_lt now c.generation.expires ≡ one → nat_lt now d.generation.expires ≡ two
        → Adds (count_by full none one two three)
    by_count true none one two three p q r = adds-none
    by_count false true one two three p q r = adds-none
    by_count false false true two three p q r = adds-one (ltb-false now b.generation.expires p)
    by_count false false false true three p q r = adds-two (ltb-false now b.generation.expires p) (ltb-false now c.generation.expires q)
    by_count false false false false true p q r =
        adds-three (ltb-false now b.generation.expires p) (ltb-false now c.generation.expires q) (ltb-false now d.generation.expires r)
    by_count false false false false false p q r = adds-none

    rotates-three : Rotates now life three_keys old
    rotates-three =
        let is : Adds (count_by (is_full (three_newest old)) (nat_lt now b.generation.expires) (nat_lt now c.generation.expires) (nat_lt now d.generation.expires) (nat_lt now e.generation.expires)) =
        by_count (is_full (three_newest old)) (nat_lt now b.generation.expires) (nat_lt now c.generation.expires) (nat_lt now d.generation.expires) (nat_lt now e.generation.expires) refl refl refl in
        record { more = is.more; at = is.at; keyed = is.keyed; spaced = is.spaced_all; three = is.three; newest = is.newest }

  pub rotates-on : (xs : List Added) → AreThree xs → AreSpaced life xs → Rotates now life three_keys xs
  rotates-on [] three spaced = rotates-first
  rotates-on (c ∷ b ∷ a ∷ older) three spaced = rotates-three a b c older spaced
  rotates-on (x ∷ y ∷ []) three spaced = absurd three
  rotates-on (x ∷ []) three spaced = absurd three
