-- Secure frames in a stream ("msgr2 protocol", secure mode): which frame stands at the front of some bytes, and what a stream of them has been
-- fed and has given.
use Rattle.std.specs.Prelude.{ℕ, ◌≡◌, ◌+◌, ◌-◌, ◌^◌, ◌<◌, ◌≤◌, List, ◌++◌, All, length, take, drop, nat_lt, Option, Some, None, Result, Ok, Err, if◌then◌else◌}
use Rattle.std.specs.List.{flat_map}
use Rattle.cx_secure.specs.cx_aes.specs.Cipher.{IsBlock}
use Rattle.cx_frame.specs.declared.frame.Frame.{Frame}
use Rattle.cx_frame.specs.Preambles.{IsAllowed, preamble_of}
use Rattle.cx_secure.specs.declared.sealing.Head.{Head}
use Rattle.cx_secure.specs.declared.sealing.Sealing.{Sealing}
use Rattle.cx_secure.specs.declared.refusals.SecureRefusal.{SecureRefusal}
use Rattle.cx_secure.specs.declared.refusals.SecureRefusal.TheVariants.{TooLong, OutOfMemory}
use Rattle.cx_secure.specs.Opening.{head_step, rest_step}
use Rattle.cx_secure.specs.Parts.{IsFixed, sealed_parts}
use Rattle.cx_secure.specs.Plains.{plains, rest_len, secure_text}
use Rattle.cx_secure.specs.Sealings.{after_sealed, connection_key}
use Rattle.cx_stream.specs.Fronts.{with_length}
use Rattle.cx_stream.specs.Held.{Held, sealed_head}
use Rattle.cx_stream.specs.declared.faults.StreamFault.{StreamFault}
use Rattle.cx_stream.specs.declared.faults.StreamFault.TheVariants.{Secure}

-- a frame that travels as a secure one
abbrev pub IsSecure : Frame → Type 0
IsSecure f = IsAllowed 1048576 (preamble_of f)

-- ---- the frame at the front of some bytes

-- bytes that are sealed under this key, with these fixed bytes in each nonce, from this counter on
pub record Ahead : Type 0 where
  pub key : List ℕ
  pub fixed : List ℕ
  pub counter : ℕ
  pub bytes : List ℕ

-- a key of 16 bytes and the four fixed bytes of nonces, as each sealing has them
pub record IsKeyed (a : Ahead) : Type 0 where
  pub key : IsBlock a.key
  pub fixed : IsFixed a.fixed

-- the first n bytes are this frame
pub record IsSecureAt (a : Ahead) (f : Frame) (n : ℕ) : Type 0 where
  pub secure : IsSecure f
  pub counters : a.counter + length (plains f) < 2 ^ 64
  pub there : n ≤ length a.bytes
  pub text : take n a.bytes ≡ secure_text a.key a.fixed a.counter f

-- what stands behind it
abbrev pub behind_frame : Ahead → Frame → ℕ → Ahead
behind_frame a f n = record a { counter = a.counter + length (plains f); bytes = drop n a.bytes }

-- the frame whose head was opened, in what stands behind that and is sealed from this counter on
unfoldable pub behind_head : Ahead → Result Head SecureRefusal → Result (Option (Frame × ℕ)) SecureRefusal
behind_head a (Ok h) =
    if nat_lt (length a.bytes) (rest_len h.preamble) then Ok None
    else with_length (96 + rest_len h.preamble) (rest_step a.key a.fixed a.counter h (take (rest_len h.preamble) a.bytes))
behind_head a (Err e) = Err e

-- the frame at the front, and its length; nothing where it isn't all there yet
unfoldable pub secure_frame_at : Ahead → Result (Option (Frame × ℕ)) SecureRefusal
secure_frame_at a =
    if nat_lt (length a.bytes) 96 then Ok None
    else behind_head (record a { counter = a.counter + 1; bytes = drop 96 a.bytes }) (head_step a.key a.fixed a.counter (take 96 a.bytes))

-- no frame stands at the front
abbrev pub BeginsNoSecure : Ahead → Type 0
BeginsNoSecure a =
    (f : Frame) (more : List ℕ) → IsSecure f → a.counter + length (plains f) < 2 ^ 64 → a.bytes ≡ secure_text a.key a.fixed a.counter f ++ more → ⊥

-- bytes are these frames, and a rest that begins with no other
pub record IsSecureStream (a : Ahead) (frames : List Frame) (rest : List ℕ) : Type 0 where
  pub secure : All IsSecure frames
  pub counters : a.counter + length (flat_map plains frames) < 2 ^ 64
  pub text : a.bytes ≡ sealed_parts a.key a.fixed a.counter (flat_map plains frames) ++ rest
  pub ended : BeginsNoSecure (record a { counter = a.counter + length (flat_map plains frames); bytes = rest })

-- ---- a stream of secure frames

-- the counter of the first part of the next frame, where the next part has this one
abbrev pub counter_of : ℕ → Option Head → ℕ
counter_of next (Some h) = next - 1
counter_of next None = next

-- what stands behind the frames that were given
abbrev pub ahead : Held → Ahead
ahead s = record {
  key = connection_key s.sealing;
  fixed = s.sealing.into.fixed;
  counter = counter_of s.sealing.into.counter s.head;
  bytes = sealed_head s.sealing s.head ++ s.rest;
}

-- a stream stands for these bytes that it was fed and these frames that it gave: they are sealed from some counter on, and it goes on
-- behind them
pub record Holds (a : Ahead) (fed : List ℕ) (given : List Frame) : Type 0 where
  pub start : ℕ
  pub secure : All IsSecure given
  pub count : start + length (flat_map plains given) ≡ a.counter
  pub whole : fed ≡ sealed_parts a.key a.fixed start (flat_map plains given) ++ a.bytes

-- the answer is this one, unless memory was wanting
abbrev pub AgreesSecure : {X : Type 0} → Result X StreamFault → Result X SecureRefusal → Type 0
AgreesSecure (Ok x) expected = expected ≡ Ok x
AgreesSecure (Err (Secure OutOfMemory)) expected = Unit {0}
AgreesSecure (Err (Secure e)) expected = expected ≡ Err e
AgreesSecure (Err e) expected = ⊥

-- the answer is this one, whatever memory there is
abbrev pub IsAnswer : {X : Type 0} → Result X StreamFault → Result X SecureRefusal → Type 0
IsAnswer (Ok x) expected = expected ≡ Ok x
IsAnswer (Err (Secure e)) expected = expected ≡ Err e
IsAnswer (Err e) expected = ⊥

-- a frame that is given stands at the front, and the stream goes on behind it
pub record Passes (old new : Ahead) (f : Frame) : Type 0 where
  pub len : ℕ
  pub front : IsSecureAt old f len
  pub behind : new ≡ behind_frame old f len

abbrev pub PassesGiven : {E : Type 0} → Ahead → Ahead → Result (Option Frame) E → Type 0
PassesGiven old new (Ok (Some f)) = Passes old new f
PassesGiven old new (Ok None) = new ≡ old
PassesGiven old new (Err e) = new ≡ old

-- a refusal is kept, but for want of memory
abbrev pub KeepsFault : {X : Type 0} → Option SecureRefusal → Option SecureRefusal → Result X StreamFault → Type 0
KeepsFault old new (Ok x) = new ≡ None
KeepsFault old new (Err (Secure OutOfMemory)) = new ≡ old
KeepsFault old new (Err (Secure e)) = new ≡ Some e
KeepsFault old new (Err e) = ⊥

-- why a frame isn't sealed, unless memory was wanting
abbrev pub IsPutFault : Option SecureRefusal → StreamFault → Type 0
IsPutFault expected (Secure OutOfMemory) = Unit {0}
IsPutFault expected (Secure e) = expected ≡ Some e
IsPutFault expected e = ⊥

-- the sealing behind a frame that was put, or refused: that its frame is too long isn't kept
abbrev pub after_put : Sealing → Frame → Result (Unit {0}) StreamFault → Sealing
after_put s f (Ok x) = after_sealed s (length (plains f))
after_put s f (Err (Secure OutOfMemory)) = s
after_put s f (Err (Secure (TooLong n))) = s
after_put s f (Err (Secure e)) = record s { kept = Some e }
after_put s f (Err e) = s
