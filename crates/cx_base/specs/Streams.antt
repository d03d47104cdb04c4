-- What a source gave and a sink took, and when a fault of theirs counts.
use Rattle.std.specs.Prelude.{ℕ, ◌+◌, ◌-◌, ◌^◌, ◌<◌, ◌≤◌, ◌≡◌, min, List, [], ◌++◌, length, take, drop, Option, Some, None, Result, Ok, Err, Bool, OnErr, not, nat_le, ◌&&◌, ◌==◌, if◌then◌else◌}
use Rattle.std.specs.List.{list_any}

-- a count of faults rose; one that stands at the last value of a u64 counts as risen
abbrev pub Rose : ℕ → ℕ → Type 0
Rose before now = min (before + 1) (2 ^ 64 - 1) ≤ now

-- the count never falls, and a failure comes only where it rose in this call
pub record HasCause {X E : Type 0} (before now : ℕ) (answer : Result X E) : Type 0 where
  pub later : before ≤ now
  pub failed : OnErr answer (Rose before now)

-- the count stands where the call goes well, and rose where it failed
abbrev pub Counts : {X E : Type 0} → ℕ → ℕ → Result X E → Type 0
Counts before now (Ok x) = now ≡ before
Counts before now (Err e) = (before ≤ now) × Rose before now

-- where the source tells what it has left: the n bytes given are its next ones, they stand at the beginning of `into`,
-- and where `into` has room, none are given at the end of input alone
abbrev pub Gives : Option (List ℕ) → Option (List ℕ) → List ℕ → ℕ → Type 0
Gives None new into n = Unit {0}
Gives (Some bytes) new into n = (n ≤ length bytes) × (take n into ≡ take n bytes) × (new ≡ Some (drop n bytes)) × (0 < length into → n ≡ 0 → bytes ≡ [])

-- where the sink tells what it took: all of the bytes, behind what it had
abbrev pub Takes : Option (List ℕ) → Option (List ℕ) → List ℕ → Type 0
Takes None new bytes = Unit {0}
Takes (Some taken) new bytes = new ≡ Some (taken ++ bytes)

-- where the sink tells what it took: a front of the bytes, behind what it had
abbrev pub TakesFront : Option (List ℕ) → Option (List ℕ) → List ℕ → Type 0
TakesFront None new bytes = Unit {0}
TakesFront (Some taken) new bytes = (n : ℕ) × (new ≡ Some (taken ++ take n bytes))

-- whether the call of this number is listed among those that fail
abbrev pub is_listed : List ℕ → ℕ → Bool
is_listed fails call = list_any (λ b. b == call) fails

-- a source in memory as contracts see it: the bytes left, the numbers of the calls that fail, the calls and faults so far
pub record Giving : Type 0 where
  pub left : List ℕ
  pub fails : List ℕ
  pub calls : ℕ
  pub faults : ℕ

-- a sink in memory as contracts see it: the bytes taken, the room that is left, the numbers of the calls that fail, the
-- calls and faults so far
pub record Taking : Type 0 where
  pub taken : List ℕ
  pub room : ℕ
  pub fails : List ℕ
  pub calls : ℕ
  pub faults : ℕ

-- a count that rises by one and stands still at its last value
abbrev pub count_after : ℕ → ℕ
count_after n = min (n + 1) (2 ^ 64 - 1)

-- whether a source in memory gives at its next call
abbrev pub gives_next : Giving → Bool
gives_next s = not (is_listed s.fails (count_after s.calls))

-- whether a sink in memory takes all of these bytes at its next call: it isn't listed and they fit
abbrev pub takes_all : Taking → List ℕ → Bool
takes_all s bytes = not (is_listed s.fails (count_after s.calls)) && nat_le (length bytes) s.room

-- how many bytes a source in memory gives into so much room: none where the call fails, else as many as there are and fit
abbrev pub pulled : Giving → ℕ → ℕ
pulled s room = if gives_next s then min (length s.left) room else 0

-- a source in memory behind a call with so much room
abbrev pub after_pull : Giving → ℕ → Giving
after_pull s room = record s {
  left = drop (pulled s room) s.left;
  calls = count_after s.calls;
  faults = (if gives_next s then s.faults else count_after s.faults);
}

-- which bytes a sink in memory takes of these: none where the call is listed, else those that fit
abbrev pub taken_of : Taking → List ℕ → List ℕ
taken_of s bytes = if is_listed s.fails (count_after s.calls) then [] else take s.room bytes

-- a sink in memory behind a push of these bytes
abbrev pub after_push : Taking → List ℕ → Taking
after_push s bytes = record s {
  taken = s.taken ++ taken_of s bytes;
  room = s.room - length (taken_of s bytes);
  calls = count_after s.calls;
  faults = (if takes_all s bytes then s.faults else count_after s.faults);
}
