-- Frames that are sealed ahead and then committed: which counters each uses, and that of any run of commits each is used once.
use Rattle.std.specs.Prelude.{ℕ, ◌≡◌, ◌+◌, ◌<◌, ◌≤◌, List, [], ◌∷◌, length}
use Rattle.cx_frame.specs.declared.frame.Frame.{Frame}
use Rattle.cx_secure.specs.Plains.{plains}
use Rattle.cx_secure.specs.declared.sealing.SealedAhead.{SealedAhead}
use Rattle.cx_secure.specs.declared.sealing.Sealing.{Sealing}

-- a frame was sealed ahead by this sealing: it uses the counters from the next one on, one for each part
pub record IsAheadOf (s : Sealing) (f : Frame) (a : SealedAhead) : Type 0 where
  pub from : a.from ≡ s.out.counter
  pub next : a.next ≡ s.out.counter + length (plains f)

-- the sealing behind a commit
abbrev pub after_commit : Sealing → SealedAhead → Sealing
after_commit s a = record s { out = record s.out { counter = a.next } }

-- a run of commits, each to a sealing that stands at its counter: the first stands at this counter, and that behind the last at the other
abbrev pub IsRun : ℕ → List SealedAhead → ℕ → Type 0
IsRun counter [] end = counter ≡ end
IsRun counter (a ∷ more) end = (a.from ≡ counter) × IsRun a.next more end

-- a part of the frame was sealed under this counter
pub record Uses (a : SealedAhead) (counter : ℕ) : Type 0 where
  pub low : a.from ≤ counter
  pub high : counter < a.next
