-- The two steps of a turn of secure frames: the head, and what stands behind it.
use Rattle.std.specs.Prelude.{◌≡◌, ◌≤◌, ◌<◌, length, take, drop, Option, Some, None, Result, Ok, Err}
use Rattle.cx_frame.specs.declared.frame.Frame.{Frame}
use Rattle.cx_secure.specs.declared.sealing.Head.{Head}
use Rattle.cx_secure.specs.declared.refusals.SecureRefusal.{SecureRefusal}
use Rattle.cx_secure.specs.declared.refusals.SecureRefusal.TheVariants.{OutOfMemory}
use Rattle.cx_secure.specs.Opening.{IsRestBehind, rest_step}
use Rattle.cx_secure.specs.Plains.{rest_len, rest_parts}
use Rattle.cx_secure.specs.Sealings.{connection_key, after_opened, unless_kept}
use Rattle.cx_stream.specs.Held.{Held, IsOpen}
use Rattle.cx_stream.specs.SecureStreams.{Ahead, ahead, behind_head, secure_frame_at}

-- a sealing that keeps this refusal
abbrev pub refusing : Held → SecureRefusal → Held
refusing s e = record s { sealing = record s.sealing { kept = Some e } }

-- what stands behind a head that is open
abbrev pub behind_open : Held → Ahead
behind_open s = record { key = connection_key s.sealing; fixed = s.sealing.into.fixed; counter = s.sealing.into.counter; bytes = s.rest }

-- the head of the next frame is open, and nothing moved
pub record Opened (old new : Held) (h : Head) : Type 0 where
  pub head : new.head ≡ Some h
  pub free : old.sealing.kept ≡ None
  pub free_still : new.sealing.kept ≡ None
  pub same : ahead new ≡ ahead old
  pub next : secure_frame_at (ahead old) ≡ behind_head (behind_open new) (Ok h)
  pub steady : IsOpen new.sealing h

abbrev pub Readied : Held → Held → Result (Option Head) SecureRefusal → Type 0
Readied old new (Ok (Some h)) = Opened old new h
Readied old new (Ok None) = (new ≡ old) × (old.sealing.kept ≡ None) × (secure_frame_at (ahead old) ≡ Ok None)
Readied old new (Err OutOfMemory) = new ≡ old
Readied old new (Err e) = (new ≡ refusing old e) × (unless_kept old.sealing.kept (secure_frame_at (ahead old)) ≡ Err e)

-- the frame behind its head was opened and taken
pub record Given (old new : Held) (h : Head) (f : Frame) : Type 0 where
  pub there : rest_len h.preamble ≤ length old.rest
  pub read : rest_step (connection_key old.sealing) old.sealing.into.fixed old.sealing.into.counter h (take (rest_len h.preamble) old.rest) ≡ Ok f
  pub found : IsRestBehind (connection_key old.sealing) old.sealing.into.fixed old.sealing.into.counter h (take (rest_len h.preamble) old.rest) f
  pub after : new ≡ (let s : Held = record { sealing = after_opened old.sealing (rest_parts h.preamble); head = None; rest = drop (rest_len h.preamble) old.rest } in s)

abbrev pub Finished : Held → Held → Head → Result (Option Frame) SecureRefusal → Type 0
Finished old new h (Ok (Some f)) = Given old new h f
Finished old new h (Ok None) = (new ≡ old) × (length old.rest < rest_len h.preamble)
Finished old new h (Err OutOfMemory) = new ≡ old
Finished old new h (Err e) = (new ≡ refusing old e) × (behind_head (behind_open old) (Ok h) ≡ Err e)
