-- What stands next on a link, behind what was taken ("msgr2 protocol": a banner, then plain frames, then secure ones).
use Rattle.std.specs.Prelude.{ℕ, ◌+◌, List, [], map, drop, length, Option, Some, None, Result, Ok, Err}
use Rattle.cx_stream.specs.cx_frame.specs.Banners.{banner_at}
use Rattle.cx_stream.specs.cx_frame.specs.declared.banner.Banner.{Banner}
use Rattle.cx_stream.specs.cx_frame.specs.declared.frame.Frame.{Frame}
use Rattle.cx_stream.specs.cx_frame.specs.declared.refusals.BannerRefusal.{BannerRefusal}
use Rattle.cx_stream.specs.cx_frame.specs.declared.refusals.BannerRefusal.TheVariants as banner
use Rattle.cx_stream.specs.cx_frame.specs.declared.refusals.FrameRefusal.{FrameRefusal}
use Rattle.cx_stream.specs.cx_frame.specs.declared.refusals.FrameRefusal.TheVariants as plain
use Rattle.cx_login.specs.cx_journal.specs.declared.faults.BytesFault.{BytesFault}
use Rattle.cx_login.specs.cx_journal.specs.declared.faults.BytesFault.TheVariants as fault
use Rattle.cx_login.specs.cx_journal.specs.declared.premises.KeyKind.TheVariants as kind
use Rattle.cx_stream.specs.cx_secure.specs.Plains.{plains}
use Rattle.cx_stream.specs.cx_secure.specs.declared.refusals.SecureRefusal.{SecureRefusal}
use Rattle.cx_stream.specs.cx_secure.specs.declared.refusals.SecureRefusal.TheVariants as secure
use Rattle.cx_login.specs.cx_steps.specs.declared.seals.SealEntry.{SealEntry}
use Rattle.cx_login.specs.cx_steps.specs.declared.seals.SealEntry.TheVariants as entry
use Rattle.cx_stream.specs.Openings.{front_contents}
use Rattle.cx_stream.specs.PlainStreams.{plain_frame_at}
use Rattle.cx_stream.specs.SecureStreams.{Ahead, secure_frame_at}
use Rattle.cx_rules.specs.Links.{Link}
use Rattle.cx_rules.specs.Secured.{Keys}

-- what stands there: not all of the next banner or frame; one that is refused; or one, with what follows from that it is taken; and what
-- opened of it
pub data Front (X : Type 0) : Type 0 where
  NotYet : Front X
  Broken : BytesFault → List SealEntry → Front X
  Next : X → List SealEntry → Front X

-- ---- the names of refusals

abbrev pub banner_fault : BannerRefusal → BytesFault
banner_fault (banner.BadBanner place) = fault.BadBanner
banner_fault (banner.Features bits) = fault.Features bits

-- want of memory is no refusal of a definition
abbrev pub plain_fault : FrameRefusal → BytesFault
plain_fault plain.BadCrc = fault.BadCrc
plain_fault plain.BadShape = fault.BadShape
plain_fault (plain.TooLong n) = fault.TooLong
plain_fault plain.Aborted = fault.Aborted
plain_fault plain.OutOfMemory = fault.BadShape

abbrev pub secure_fault : SecureRefusal → BytesFault
secure_fault secure.CounterSpent = fault.CounterSpent
secure_fault secure.BadTag = fault.BadTag
secure_fault secure.BadCrc = fault.BadCrc
secure_fault secure.BadShape = fault.BadShape
secure_fault (secure.TooLong n) = fault.TooLong
secure_fault secure.Aborted = fault.Aborted
secure_fault secure.OutOfMemory = fault.BadShape

-- ---- taking

-- each part that opened, as an entry of the log
abbrev pub opened_parts : Ahead → List SealEntry
opened_parts ahead = map (λ content. entry.Opened (record { key = ahead.key; kind = kind.Connection; content = content })) (front_contents ahead)

-- the keys behind a frame: each part raises the counter
abbrev pub keys_behind : Keys → Frame → Keys
keys_behind keys f = record keys { into = record keys.into { counter = keys.into.counter + length (plains f) } }

module _ {Stage : Type 0} where
  -- the bytes behind what was taken
  abbrev pub ahead_of : Link Stage → List ℕ
  ahead_of link = drop link.taken link.received

  -- the link behind so many more bytes
  abbrev pub taking : Link Stage → ℕ → Link Stage
  taking link n = record link { taken = link.taken + n }

  abbrev pub banner_read : Link Stage → Result (Option (Banner × ℕ)) BannerRefusal → Front (Link Stage)
  banner_read link (Ok None) = NotYet
  banner_read link (Ok (Some (b, n))) = Next (taking link n) []
  banner_read link (Err e) = Broken (banner_fault e) []

  -- the peer's banner
  abbrev pub banner_next : Link Stage → Front (Link Stage)
  banner_next link = banner_read link (banner_at (ahead_of link))

  abbrev pub plain_read : Link Stage → Result (Option (Frame × ℕ)) FrameRefusal → Front (Link Stage × Frame)
  plain_read link (Ok None) = NotYet
  plain_read link (Ok (Some (f, n))) = Next (taking link n, f) []
  plain_read link (Err e) = Broken (plain_fault e) []

  -- a plain frame
  abbrev pub plain_next : Link Stage → Front (Link Stage × Frame)
  plain_next link = plain_read link (plain_frame_at (ahead_of link))

  -- what comes under these keys
  abbrev pub sealed_ahead : Keys → Link Stage → Ahead
  sealed_ahead keys link = record { key = keys.key; fixed = keys.into.fixed; counter = keys.into.counter; bytes = ahead_of link }

  abbrev pub secure_read : Keys → Link Stage → List SealEntry → Result (Option (Frame × ℕ)) SecureRefusal → Front (Link Stage × Frame × Keys)
  secure_read keys link opened (Ok None) = NotYet
  secure_read keys link opened (Ok (Some (f, n))) = Next (taking link n, f, keys_behind keys f) opened
  secure_read keys link opened (Err e) = Broken (secure_fault e) opened

  -- a secure frame
  abbrev pub secure_next : Keys → Link Stage → Front (Link Stage × Frame × Keys)
  secure_next keys link = secure_read keys link (opened_parts (sealed_ahead keys link)) (secure_frame_at (sealed_ahead keys link))
