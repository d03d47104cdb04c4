-- Laws of rotation.
use Rattle.std.specs.Prelude.{ℕ, ◌≡◌, ◌+◌, ◌*◌, ◌<◌, ◌≤◌, max, false, IsTrue, List, [], ◌∷◌, length}
use Rattle.cx_rotate.specs.declared.generations.Generation.{Generation}
use Rattle.cx_rotate.specs.Held.{IsRising}
use Rattle.cx_rotate.specs.Keeping.{IsLife, IsLasting}
use Rattle.cx_rotate.specs.Rotation.{Rotated, rotated, additions, is_current, is_full}

-- a rotation has one result
abbrev pub HasOneResult : Type 0
HasOneResult =
    (old : List Generation) (now life : ℕ) (keys : List (List ℕ)) (new other : List Generation) (n m : ℕ)
    → Rotated old now life keys new n → Rotated old now life keys other m → (new ≡ other) × (n ≡ m)

-- generations that stand have a rotation, and it is the one that `rotated` and `additions` compute
abbrev pub HasResult : Type 0
HasResult =
    (old : List Generation) (now life : ℕ) (keys : List (List ℕ)) → IsRising old → 0 < life → length keys ≡ 3
    → Rotated old now life keys (rotated now life keys old) (additions now life keys old)

-- behind a rotation three stand whose ids rise by one and whose second is unexpired, save at the bounds
abbrev pub StandsCurrent : Type 0
StandsCurrent =
    (old : List Generation) (now life : ℕ) (keys : List (List ℕ)) → IsRising old → 0 < life → length keys ≡ 3
    → is_full old ≡ false
    → IsRising (rotated now life keys old) × (length (rotated now life keys old) ≡ 3) × IsTrue (is_current now (rotated now life keys old))

-- generations that began with none and were rotated with one life, at readings up to `until`: the newest expires at most
-- three lives later, at most a life behind the later of a life from then and the second's expiry, and a life or more for
-- each generation so far has passed at its expiry
abbrev pub IsPaced : ℕ → ℕ → List Generation → Type 0
IsPaced until life [] = Unit {0}
IsPaced until life (_ ∷ second ∷ newest ∷ []) =
    (newest.expires ≤ until + 3 * life)
    × (newest.expires ≤ max (until + life) second.expires + life)
    × (newest.id * life ≤ newest.expires)
IsPaced until life _ = ⊥

-- a rotation at that reading or later keeps this
abbrev pub KeepsPace : Type 0
KeepsPace =
    (old : List Generation) (until now life : ℕ) (keys : List (List ℕ)) → IsRising old → 0 < life → length keys ≡ 3
    → until ≤ now → IsPaced until life old → IsPaced now life (rotated now life keys old)

-- so the bounds are never reached: readings stay below 4,000,000,000 s, and a life is 1 s to 31,536,000 s
abbrev pub IsNeverFull : Type 0
IsNeverFull =
    (old : List Generation) (until life : ℕ) → IsPaced until life old → until < 4000000000000000000
    → 1000000000 ≤ life → life ≤ 31536000000000000 → is_full old ≡ false

-- generations that can be kept are rotated to such ones
abbrev pub StaysLasting : Type 0
StaysLasting =
    (old : List Generation) (now life : ℕ) (keys : List (List ℕ)) → IsLasting old → now < 4000000000000000000 → IsLife life
    → length keys ≡ 3 → IsLasting (rotated now life keys old)
