-- What a clock reads, and the clock in memory.
use Rattle.std.specs.Prelude.{ℕ, zero, suc, ◌≡◌, ◌-◌, min, Bool, nat_lt, List, [], ◌∷◌, length, slice_index, Option, Some, None}

-- where the clock tells which readings are to come, numbered from 0: the next one is given, and the others are to come
abbrev pub GivesReading : Option (ℕ → ℕ) → Option (ℕ → ℕ) → ℕ → Type 0
GivesReading None new reading = Unit {0}
GivesReading (Some coming) new reading = (reading ≡ coming 0) × (new ≡ Some (λ n. coming (suc n)))

-- what a clock may read: less than 4,000,000,000 s, in nanoseconds
abbrev pub is_clock_reading : ℕ → Bool
is_clock_reading reading = nat_lt reading 4000000000000000000

-- ---- the clock in memory, which a contract sees as the readings that are left

-- the first reading, and 0 where there is none
abbrev pub first_of : List ℕ → ℕ
first_of [] = 0
first_of (first ∷ readings) = first

-- the readings that are left behind a call: the last one is never given up
abbrev pub behind : List ℕ → List ℕ
behind [] = []
behind (last ∷ []) = last ∷ []
behind (first ∷ second ∷ readings) = second ∷ readings

-- the readings to come, numbered from 0
abbrev pub readings_of : List ℕ → ℕ → ℕ
readings_of readings zero = first_of readings
readings_of readings (suc n) = readings_of (behind readings) n

-- a clock reads its list in order, and then the last one again
abbrev pub ReadsInOrder : Type 0
ReadsInOrder = (readings : List ℕ) (n : ℕ) → readings_of readings n ≡ slice_index readings (min n (length readings - 1))
