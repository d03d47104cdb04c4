-- Links in memory: what comes of them is a script, and what they take is kept.
use Rattle.std.specs.Prelude.{ℕ, ◌+◌, ◌-◌, ◌==◌, ◌&&◌, Bool, not, nat_lt, nat_le, min, List, [], ◌∷◌, ◌++◌, length, drop, Option, Some, None, if◌then◌else◌}
use Rattle.cx_base.specs.Streams.{is_listed, count_after}
use Rattle.cx_base.specs.declared.addresses.Addr.{Addr}
use Rattle.cx_outside.specs.linking.Living.{lives, without}
use Rattle.cx_outside.specs.declared.events.LinkCall.{LinkCall}
use Rattle.cx_outside.specs.declared.events.LinkCall.TheVariants as call
use Rattle.cx_outside.specs.declared.events.LinkEvent.{LinkEvent}
use Rattle.cx_outside.specs.declared.events.LinkEvent.TheVariants.{Opened, Bytes, Gone, Quiet}

-- links in memory as contracts see them
pub record Scripted : Type 0 where
  -- the events that are left, and the bytes that are left to come
  pub events : List LinkEvent
  pub bytes : List ℕ
  -- how many links there were, and which of them live
  pub links : ℕ
  pub living : List ℕ
  -- the bytes that were taken, and the calls that took something
  pub taken : List ℕ
  pub calls : List LinkCall
  -- how many bytes may still be taken, and in how many calls
  pub room : ℕ
  pub spare : ℕ
  -- the numbers of the calls that fail, and how many that can fail there were
  pub fails : List ℕ
  pub asked : ℕ
  -- the failures of listen and next, and those of open and send
  pub faults : ℕ
  pub misses : ℕ

-- new links of a script
abbrev pub scripted : List LinkEvent → List ℕ → ℕ → List ℕ → Scripted
scripted events bytes room fails = record {
  events = events;
  bytes = bytes;
  links = 0;
  living = [];
  taken = [];
  calls = [];
  room = room;
  spare = room;
  fails = fails;
  asked = 0;
  faults = 0;
  misses = 0;
}

-- ---- parts of a call

-- whether the next call is one that fails by its number
abbrev pub fails_next : Scripted → Bool
fails_next s = is_listed s.fails (count_after s.asked)

-- whether the next call takes so many bytes: its number isn't listed, and the call and the bytes fit
abbrev pub takes_next : Scripted → ℕ → Bool
takes_next s count = not (fails_next s) && nat_lt 0 s.spare && nat_le count s.room

-- behind a call that can fail
abbrev pub counted : Scripted → Scripted
counted s = record s { asked = count_after s.asked }

-- behind a failure of listen or next
abbrev pub with_fault : Scripted → Scripted
with_fault s = record s { faults = count_after s.faults }

-- behind a failure of open or send
abbrev pub with_miss : Scripted → Scripted
with_miss s = record s { misses = count_after s.misses }

-- with one call more that was taken
abbrev pub with_call : LinkCall → Scripted → Scripted
with_call taken s = record s { calls = s.calls ++ taken ∷ []; spare = s.spare - 1 }

-- with one link more: the n-th link has the number n
abbrev pub with_link : Scripted → Scripted
with_link s = record s { links = s.links + 1; living = s.living ++ (s.links + 1) ∷ [] }

-- with these bytes taken
abbrev pub with_bytes : List ℕ → Scripted → Scripted
with_bytes bytes s = record s { taken = s.taken ++ bytes; room = s.room - length bytes }

-- ---- what is done

abbrev pub after_listen : Addr → Scripted → Scripted
after_listen at s = if takes_next s 0 then with_call (call.Listened at) (counted s) else with_fault (counted s)

-- the number that the next link to be opened gets, if it can be opened
abbrev pub number_next : Scripted → Option ℕ
number_next s = if takes_next s 0 then Some (s.links + 1) else None

abbrev pub after_open : Addr → Scripted → Scripted
after_open to s = if takes_next s 0 then with_link (with_call (call.Opened (s.links + 1) to) (counted s)) else with_miss (counted s)

abbrev pub after_send : ℕ → List ℕ → Scripted → Scripted
after_send link bytes s =
    if takes_next s (length bytes) then with_bytes bytes (with_call (call.Sent link (length bytes)) (counted s)) else with_miss (counted s)

-- to shut a link that lives can't fail and always fits; any other link is as before
abbrev pub after_shut : ℕ → Scripted → Scripted
after_shut link s =
    if lives link s.living then record s { calls = s.calls ++ call.Shut link ∷ []; living = without link s.living } else s

-- ---- what comes

-- how many bytes of a piece of so many are to come on a link: as many as are left, and none where the link doesn't live
abbrev pub owed : Scripted → ℕ → ℕ → ℕ
owed s link count = if lives link s.living then min count (length s.bytes) else 0

-- how many of them come into so much room
abbrev pub given : Scripted → ℕ → ℕ → ℕ → ℕ
given s room link count = min (owed s link count) room

-- a piece of so many bytes, and nothing where there are none
abbrev pub piece : ℕ → ℕ → LinkEvent
piece link count = if count == 0 then Quiet else Bytes link count

-- what the event at the front of a script comes to, with so much room for bytes: a link gets the next number, whichever the
-- script gave it, and an event on a link that doesn't live or with no byte is none
abbrev pub event_of : Scripted → ℕ → LinkEvent → LinkEvent
event_of s room (Opened link) = Opened (s.links + 1)
event_of s room (Bytes link count) = piece link (given s room link count)
event_of s room (Gone link) = if lives link s.living then Gone link else Quiet
event_of s room Quiet = Quiet

-- the rest of a piece of bytes, which comes at the following calls
abbrev pub rest : ℕ → ℕ → List LinkEvent
rest link count = if count == 0 then [] else Bytes link count ∷ []

-- behind that event, which stands no longer at the front
abbrev pub behind_event : Scripted → ℕ → LinkEvent → Scripted
behind_event s room (Opened link) = with_link s
behind_event s room (Bytes link count) = record s {
  events = rest link (owed s link count - given s room link count) ++ s.events;
  bytes = drop (given s room link count) s.bytes;
}
behind_event s room (Gone link) = record s { living = without link s.living }
behind_event s room Quiet = s

-- the next event of a script, and nothing at its end
abbrev pub event_in : Scripted → ℕ → List LinkEvent → LinkEvent
event_in s room [] = Quiet
event_in s room (event ∷ events) = event_of s room event

abbrev pub behind_in : Scripted → ℕ → List LinkEvent → Scripted
behind_in s room [] = s
behind_in s room (event ∷ events) = behind_event (record s { events = events }) room event

abbrev pub event_next : Scripted → ℕ → LinkEvent
event_next s room = event_in s room s.events

abbrev pub after_next : ℕ → Scripted → Scripted
after_next room s = behind_in (counted s) room s.events

abbrev pub after_fault : Scripted → Scripted
after_fault s = with_fault (counted s)
