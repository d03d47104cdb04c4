-- What a sealing holds, and how its calls change it.
use Rattle.std.specs.Prelude.{ℕ, ◌≡◌, ◌+◌, ◌-◌, ◌^◌, Bool, List, [], ◌∷◌, length, take, slice_index, Option, Some, None, Result, Ok, Err, nat_lt, if◌then◌else◌}
use Rattle.cx_gcm.specs.GcmKeyOf.{gcm_key_of}
use Rattle.cx_frame.specs.declared.frame.Frame.{Frame}
use Rattle.cx_frame.specs.Frames.{total}
use Rattle.cx_frame.specs.Banners.{number64}
use Rattle.cx_secure.specs.Opening.{head_step, rest_step}
use Rattle.cx_secure.specs.Plains.{plains}
use Rattle.cx_secure.specs.declared.sealing.Head.{Head}
use Rattle.cx_secure.specs.declared.sealing.Sealing.{Sealing}
use Rattle.cx_secure.specs.declared.sealing.Way.{Way}
use Rattle.cx_secure.specs.declared.refusals.SecureRefusal.{SecureRefusal}
use Rattle.cx_secure.specs.declared.refusals.SecureRefusal.TheVariants.{CounterSpent, TooLong, OutOfMemory}

-- the key of the connection
abbrev pub connection_key : Sealing → List ℕ
connection_key s = gcm_key_of s.key

-- a way begins with the nonce at a place of the connection's secret: four fixed bytes and a counter
pub record IsWayAt (secret : List ℕ) (i : ℕ) (w : Way) : Type 0 where
  pub fixed : w.fixed ≡ slice_index secret i ∷ slice_index secret (i + 1) ∷ slice_index secret (i + 2) ∷ slice_index secret (i + 3) ∷ []
  pub counter : w.counter ≡ number64 secret (i + 4)

-- the sealing of a side: the first 16 bytes of the secret are the key, the acceptor sends from the nonce at byte 16 on, and the
-- connector from the one at byte 28 on
pub record Starts (secret : List ℕ) (connector : Bool) (s : Sealing) : Type 0 where
  pub key : connection_key s ≡ take 16 secret
  pub out : IsWayAt secret (if connector then 28 else 16) s.out
  pub into : IsWayAt secret (if connector then 16 else 28) s.into
  pub kept : s.kept ≡ None

-- a refusal that is kept is the answer
abbrev pub unless_kept : {X : Type 0} → Option SecureRefusal → Result X SecureRefusal → Result X SecureRefusal
unless_kept (Some e) answer = Err e
unless_kept None answer = answer

abbrev pub open_head_at : Sealing → List ℕ → Result Head SecureRefusal
open_head_at s bytes = unless_kept s.kept (head_step (connection_key s) s.into.fixed s.into.counter bytes)

abbrev pub open_rest_at : Sealing → Head → List ℕ → Result Frame SecureRefusal
open_rest_at s h bytes = unless_kept s.kept (rest_step (connection_key s) s.into.fixed s.into.counter h bytes)

-- so many parts more were opened
abbrev pub after_opened : Sealing → ℕ → Sealing
after_opened s n = record s { into = record s.into { counter = s.into.counter + n } }

abbrev pub after_sealed : Sealing → ℕ → Sealing
after_sealed s n = record s { out = record s.out { counter = s.out.counter + n } }

-- the sealing behind an answer that opened so many parts: a refusal is kept, but for want of memory
abbrev pub after_opening : {X : Type 0} → Sealing → ℕ → Result X SecureRefusal → Sealing
after_opening s n (Ok x) = after_opened s n
after_opening s n (Err OutOfMemory) = s
after_opening s n (Err e) = record s { kept = Some e }

-- why a frame isn't sealed: the kept refusal, then the counter, then the limit
abbrev pub first_refusal : Option SecureRefusal → Option SecureRefusal → Option SecureRefusal
first_refusal (Some e) next = Some e
first_refusal None next = next

abbrev pub put_refusal : Sealing → Frame → Option SecureRefusal
put_refusal s f =
    first_refusal s.kept
    (if nat_lt (2 ^ 64 - 1) (s.out.counter + length (plains f)) then Some CounterSpent
    else if nat_lt 1048576 (total f) then Some (TooLong (total f))
    else None)

-- the sealing behind a frame that was sealed, or refused: that its frame is too long isn't kept
abbrev pub after_putting : Sealing → Frame → Result (Unit {0}) SecureRefusal → Sealing
after_putting s f (Ok x) = after_sealed s (length (plains f))
after_putting s f (Err OutOfMemory) = s
after_putting s f (Err (TooLong n)) = s
after_putting s f (Err e) = record s { kept = Some e }
