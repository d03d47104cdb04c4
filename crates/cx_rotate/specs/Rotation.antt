-- Rotating service secrets as Ceph's key server does ("The Ceph authentication protocol", rotating service secrets): three
-- generations stand, the second is the current one, and a new one comes behind them when the second has expired. Readings
-- and lives are in nanoseconds.
use Rattle.std.specs.Prelude.{ℕ, ◌≡◌, ◌+◌, ◌-◌, ◌*◌, ◌^◌, ◌<◌, max, Bool, false, IsTrue, nat_lt, nat_le, ◌||◌, if◌then◌else◌, List, [], ◌∷◌, ◌++◌, length, take, drop, find, unwrap_or}
use Rattle.cx_rotate.specs.declared.generations.Generation.{Generation}

-- the generations added behind the newest one, one for each key: the next id, and a life behind the later of the end of a
-- life from now and the expiry before it
abbrev pub followers : ℕ → ℕ → Generation → List (List ℕ) → List Generation
followers now life newest [] = []
followers now life newest (key ∷ keys) =
    let next : Generation = record { id = newest.id + 1; key = key; expires = max (now + life) newest.expires + life } in
    next ∷ followers now life next keys

-- the first generations, one for each key: ids from 1, each expiring a life behind the one before it
abbrev pub openers : ℕ → ℕ → ℕ → List (List ℕ) → List Generation
openers now life place [] = []
openers now life place (key ∷ keys) =
    let id : ℕ = place + 1 in
    let opener : Generation = record { id = id; key = key; expires = now + id * life } in
    opener ∷ openers now life id keys

-- what is added for these keys
abbrev pub added : ℕ → ℕ → List (List ℕ) → List Generation → List Generation
added now life keys [] = openers now life 0 keys
added now life keys (newest ∷ []) = followers now life newest keys
added now life keys (_ ∷ g ∷ gs) = added now life keys (g ∷ gs)

-- the last three of the old generations and what is added for these keys
abbrev pub grown : ℕ → ℕ → List (List ℕ) → List Generation → List Generation
grown now life keys old = last_three (old ++ added now life keys old)
  where
    last_three : List Generation → List Generation
    last_three gs = drop (length gs - 3) gs

-- whether three stand and the second's expiry is after now
abbrev pub is_current : ℕ → List Generation → Bool
is_current now (_ ∷ second ∷ _ ∷ []) = nat_lt now second.expires
is_current now _ = false

-- whether the newest has the last id or the last expiry behind which none is added: 2^64 - 4, and 4,200,000,000 s
abbrev pub is_full : List Generation → Bool
is_full [] = false
is_full (newest ∷ []) = nat_le (2 ^ 64 - 4) newest.id || nat_le 4200000000000000000 newest.expires
is_full (_ ∷ g ∷ gs) = is_full (g ∷ gs)

-- a rotation: the last three of old followed by one generation for each of the first n keys, where n is the least number
-- with which three stand and the second is unexpired; at the bounds nothing is added
pub record Rotated (old : List Generation) (now life : ℕ) (keys : List (List ℕ)) (new : List Generation) (n : ℕ) : Type 0 where
  pub grows : new ≡ grown now life (take n keys) old
  pub full : IsTrue (is_full old) → n ≡ 0
  pub current : is_full old ≡ false → IsTrue (is_current now new)
  pub least : (m : ℕ) → m < n → IsTrue (is_current now (grown now life (take m keys) old)) → ⊥

-- how many generations a rotation adds
abbrev pub additions : ℕ → ℕ → List (List ℕ) → List Generation → ℕ
additions now life keys old =
    if is_full old
    then 0
    else unwrap_or (find (λ n. is_current now (grown now life (take n keys) old)) (0 ∷ 1 ∷ 2 ∷ 3 ∷ [])) 0

-- the generations behind a rotation
abbrev pub rotated : ℕ → ℕ → List (List ℕ) → List Generation → List Generation
rotated now life keys old = grown now life (take (additions now life keys old) keys) old
