-- Plain frames in a stream ("msgr2 protocol", frame format): which frame stands at the front of some bytes, and what a stream of them has
-- been fed and has given.
use Rattle.std.specs.Prelude.{ℕ, ◌≡◌, ◌+◌, ◌≤◌, List, ◌++◌, All, length, take, drop, nat_lt, Option, Some, None, Result, Ok, Err, if◌then◌else◌}
use Rattle.std.specs.List.{flat_map}
use Rattle.cx_frame.specs.declared.banner.Banner.{Banner}
use Rattle.cx_frame.specs.declared.frame.Frame.{Frame}
use Rattle.cx_frame.specs.declared.preamble.Preamble.{Preamble}
use Rattle.cx_frame.specs.declared.refusals.FrameRefusal.{FrameRefusal}
use Rattle.cx_frame.specs.declared.refusals.FrameRefusal.TheVariants.{OutOfMemory}
use Rattle.cx_frame.specs.Banners.{banner_text}
use Rattle.cx_frame.specs.Preambles.{IsAllowed, preamble_at, preamble_of}
use Rattle.cx_frame.specs.Frames.{IsRest, frame_text, rest_at, rest_len}
use Rattle.cx_stream.specs.Fronts.{with_length}
use Rattle.cx_stream.specs.Received.{Received}
use Rattle.cx_stream.specs.declared.faults.StreamFault.{StreamFault}
use Rattle.cx_stream.specs.declared.faults.StreamFault.TheVariants.{Plain}

-- a frame that travels as a plain one
abbrev pub IsPlain : Frame → Type 0
IsPlain f = IsAllowed 65536 (preamble_of f)

-- ---- the frame at the front of some bytes

-- the first n of these bytes are this frame
pub record IsPlainAt (bytes : List ℕ) (f : Frame) (n : ℕ) : Type 0 where
  pub plain : IsPlain f
  pub there : n ≤ length bytes
  pub text : take n bytes ≡ frame_text f

-- the same, with its first 32 bytes, its preamble, apart
pub record IsPlainBehind (p : Preamble) (left : List ℕ) (f : Frame) (n : ℕ) : Type 0 where
  pub len : n ≡ 32 + rest_len p
  pub there : rest_len p ≤ length left
  pub behind : IsRest p (take (rest_len p) left) f

-- the frame whose preamble was read, in what stands behind that
unfoldable pub behind_preamble : List ℕ → Result Preamble FrameRefusal → Result (Option (Frame × ℕ)) FrameRefusal
behind_preamble left (Ok p) =
    if nat_lt (length left) (rest_len p) then Ok None else with_length (32 + rest_len p) (rest_at p (take (rest_len p) left))
behind_preamble left (Err e) = Err e

-- the frame at the front of some bytes, and its length; nothing where it isn't all there yet
unfoldable pub plain_frame_at : List ℕ → Result (Option (Frame × ℕ)) FrameRefusal
plain_frame_at bytes = if nat_lt (length bytes) 32 then Ok None else behind_preamble (drop 32 bytes) (preamble_at 65536 (take 32 bytes))

-- no frame stands at the front of these bytes
abbrev pub BeginsNoPlain : List ℕ → Type 0
BeginsNoPlain bytes = (f : Frame) (more : List ℕ) → IsPlain f → bytes ≡ frame_text f ++ more → ⊥

-- bytes are these frames, and a rest that begins with no other
pub record IsPlainStream (bytes : List ℕ) (frames : List Frame) (rest : List ℕ) : Type 0 where
  pub plain : All IsPlain frames
  pub text : bytes ≡ flat_map frame_text frames ++ rest
  pub ended : BeginsNoPlain rest

-- ---- a stream of plain frames

-- a stream stands for these bytes that it was fed and these frames that it gave: what it has taken is a banner and the frames
pub record Stands (s : Received) (fed : List ℕ) (given : List Frame) : Type 0 where
  pub banner : Banner
  pub skipped : List ℕ
  pub few : length skipped ≤ 240
  pub plain : All IsPlain given
  pub taken : s.taken ≡ banner_text banner skipped ++ flat_map frame_text given
  pub whole : fed ≡ s.taken ++ s.rest

-- the answer is this one, unless memory was wanting
abbrev pub AgreesPlain : {X : Type 0} → Result X StreamFault → Result X FrameRefusal → Type 0
AgreesPlain (Ok x) expected = expected ≡ Ok x
AgreesPlain (Err (Plain OutOfMemory)) expected = Unit {0}
AgreesPlain (Err (Plain e)) expected = expected ≡ Err e
AgreesPlain (Err e) expected = ⊥

-- a frame goes from what isn't taken to what is
pub record Takes (old new : Received) (f : Frame) : Type 0 where
  pub len : ℕ
  pub front : IsPlainAt old.rest f len
  pub taken : new.taken ≡ old.taken ++ take len old.rest
  pub rest : new.rest ≡ drop len old.rest

-- the frame that is given is taken; else all is as before
abbrev pub TakesGiven : {E : Type 0} → Received → Received → Result (Option Frame) E → Type 0
TakesGiven old new (Ok (Some f)) = Takes old new f
TakesGiven old new (Ok None) = new ≡ old
TakesGiven old new (Err e) = new ≡ old
