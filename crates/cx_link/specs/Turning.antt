-- What a turn of a link comes to, by the frame that stands ahead.
use Rattle.std.specs.Prelude.{ℕ, ◌≡◌, ◌+◌, ◌≤◌, List, ◌++◌, length, drop, Some, None, Ok, Err}
use Rattle.cx_frame.specs.Banners.{banner_at}
use Rattle.cx_frame.specs.declared.banner.Banner.{Banner}
use Rattle.cx_frame.specs.declared.frame.Frame.{Frame}
use Rattle.cx_frame.specs.declared.refusals.BannerRefusal.{BannerRefusal}
use Rattle.cx_frame.specs.declared.refusals.FrameRefusal.{FrameRefusal}
use Rattle.cx_journal.specs.declared.faults.BytesFault.{BytesFault}
use Rattle.cx_rules.specs.Fronts.{banner_fault, plain_fault, secure_fault, keys_behind, opened_parts}
use Rattle.cx_rules.specs.cx_secure.specs.declared.refusals.SecureRefusal.{SecureRefusal}
use Rattle.cx_steps.specs.declared.seals.SealEntry.{SealEntry}
use Rattle.cx_rules.specs.cx_stream.specs.PlainStreams.{plain_frame_at}
use Rattle.cx_rules.specs.cx_stream.specs.SecureStreams.{secure_frame_at}
use Rattle.cx_link.specs.Wires.{SecureWire, Wire, ahead_in, secure_ahead}
use Rattle.cx_link.specs.declared.links.Signing.{Signing}
use Rattle.cx_link.specs.declared.turns.BannerTurn.{BannerTurn}
use Rattle.cx_link.specs.declared.turns.BannerTurn.TheVariants as banner
use Rattle.cx_link.specs.declared.turns.LinkTurn.{LinkTurn}
use Rattle.cx_link.specs.declared.turns.LinkTurn.TheVariants.{Waits, Takes, Refuses}

-- ---- the banner

pub record TakesBanner (old new : Wire) : Type 0 where
  pub peer : Banner
  pub len : ℕ
  pub front : banner_at (ahead_in old) ≡ Ok (Some (peer, len))
  pub there : old.taken + len ≤ length old.received
  pub behind : new ≡ record old { taken = old.taken + len }

pub record RefusesBanner (old : Wire) (why : BytesFault) : Type 0 where
  pub refusal : BannerRefusal
  pub front : banner_at (ahead_in old) ≡ Err refusal
  pub fault : why ≡ banner_fault refusal

abbrev pub BannerTurns : Wire → BannerTurn → Type 0
BannerTurns old (banner.Waits new) = (banner_at (ahead_in old) ≡ Ok None) × (new ≡ old)
BannerTurns old (banner.Takes new) = TakesBanner old new
BannerTurns old (banner.Refuses why) = RefusesBanner old why

-- ---- plain frames

pub record TakesPlain (old new : Wire) (f : Frame) : Type 0 where
  pub len : ℕ
  pub front : plain_frame_at (ahead_in old) ≡ Ok (Some (f, len))
  pub there : old.taken + len ≤ length old.received
  pub behind : new ≡ record old { taken = old.taken + len }

pub record RefusesPlain (old : Wire) (why : BytesFault) : Type 0 where
  pub refusal : FrameRefusal
  pub front : plain_frame_at (ahead_in old) ≡ Err refusal
  pub fault : why ≡ plain_fault refusal

abbrev pub PlainTurns : Wire → LinkTurn Wire → Type 0
PlainTurns old (Waits new) = (plain_frame_at (ahead_in old) ≡ Ok None) × (new ≡ old)
PlainTurns old (Takes new f) = TakesPlain old new f
PlainTurns old (Refuses why) = RefusesPlain old why

-- ---- secure frames, of which each part that opens is logged

pub record TakesSecure (old new : SecureWire) (f : Frame) (before after : List SealEntry) : Type 0 where
  pub len : ℕ
  pub front : secure_frame_at (secure_ahead old) ≡ Ok (Some (f, len))
  pub there : len ≤ length old.ahead
  pub behind : new ≡ record { keys = keys_behind old.keys f; ahead = drop len old.ahead }
  pub opened : after ≡ before ++ opened_parts (secure_ahead old)

pub record RefusesSecure (old : SecureWire) (why : BytesFault) (before after : List SealEntry) : Type 0 where
  pub refusal : SecureRefusal
  pub front : secure_frame_at (secure_ahead old) ≡ Err refusal
  pub fault : why ≡ secure_fault refusal
  pub opened : after ≡ before ++ opened_parts (secure_ahead old)

abbrev pub SecureTurns : SecureWire → List SealEntry → List SealEntry → LinkTurn SecureWire → Type 0
SecureTurns old before after (Waits new) = (secure_frame_at (secure_ahead old) ≡ Ok None) × (new ≡ old) × (after ≡ before)
SecureTurns old before after (Takes new f) = TakesSecure old new f before after
SecureTurns old before after (Refuses why) = RefusesSecure old why before after

-- a link that awaits a signature turns as any secured one; what signs, and what the signature has to cover, stay
abbrev pub SigningTurns : Signing → List SealEntry → List SealEntry → LinkTurn Signing → Type 0
SigningTurns old before after (Waits new) = SecureTurns old.link before after (Waits new.link) × (new ≡ old)
SigningTurns old before after (Takes new f) = TakesSecure old.link new.link f before after × (new ≡ record old { link = new.link })
SigningTurns old before after (Refuses why) = RefusesSecure old.link why before after
