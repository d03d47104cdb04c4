-- What an entity asks the monitor on its open link, and how it takes the replies ("detailed cephx protocol": tickets for services, and rotating
-- secrets for a daemon): the rows behind a login, in the order of a connection. How the open stage is called is left to whoever has the link;
-- what it keeps beside its keys are the `Requests` of the link.
use Rattle.std.specs.Prelude.{ℕ, ◌==◌, ◌+◌, ◌-◌, ◌^◌, Bool, true, false, List, [], ◌∷◌, ◌++◌, length, nat_lt, Option, Some, None, Result, Ok, Err, is_none, if◌then◌else◌}
use Rattle.std.specs.List.{list_any}
use Rattle.cx_base.specs.Names.{Name, is_daemon_type}
use Rattle.cx_login.specs.cx_control.specs.declared.idents.ServerIdent.{ServerIdent}
use Rattle.cx_stream.specs.cx_frame.specs.declared.frame.Frame.{Frame}
use Rattle.cx_login.specs.cx_journal.specs.declared.entries.Entry.{Entry}
use Rattle.cx_login.specs.cx_journal.specs.declared.entries.Entry.TheVariants as entry
use Rattle.cx_login.specs.cx_journal.specs.declared.faults.BytesFault.{BytesFault}
use Rattle.cx_login.specs.cx_journal.specs.declared.faults.BytesFault.TheVariants.{Unexpected}
use Rattle.cx_login.specs.cx_journal.specs.declared.faults.LoginFault.TheVariants.{Unopened}
use Rattle.cx_login.specs.cx_journal.specs.declared.outcomes.Reason.{Reason}
use Rattle.cx_login.specs.cx_journal.specs.declared.outcomes.Reason.TheVariants.{BadReply, Bytes, Login, Spent}
use Rattle.cx_login.specs.cx_journal.specs.declared.premises.KeyKind.TheVariants.{Principal}
use Rattle.cx_keyserver.specs.Issuing.{current_at}
use Rattle.cx_login.specs.Held.{Held}
use Rattle.cx_login.specs.Unlocking.{told_each, unlocked}
use Rattle.cx_rotate.specs.declared.generations.Generation.{Generation}
use Rattle.cx_rotate.specs.declared.views.View.{View}
use Rattle.cx_keyserver.specs.cx_sealed.specs.Records.{rotating_reply_layout}
use Rattle.cx_keyserver.specs.cx_sealed.specs.declared.rotating_reply.RotatingReply.{RotatingReply}
use Rattle.cx_login.specs.cx_steps.specs.declared.seals.SealEntry.{SealEntry}
use Rattle.cx_login.specs.cx_wire.specs.Bodies.{reply_layout, request_layout}
use Rattle.cx_login.specs.cx_wire.specs.declared.bodies.Reply.{Reply}
use Rattle.cx_login.specs.cx_wire.specs.declared.bodies.Reply.TheVariants as given
use Rattle.cx_login.specs.cx_wire.specs.declared.bodies.Request.{Request}
use Rattle.cx_login.specs.cx_wire.specs.declared.bodies.Request.TheVariants as asked
use Rattle.cx_rules.specs.Holdings.{MonClient, put_tickets}
use Rattle.cx_rules.specs.Links.{Link}
use Rattle.cx_rules.specs.Messages.{Message, body_as, message, message_in, on_upkeep_or}
use Rattle.cx_rules.specs.Rows.{Arrival, Row, goes_on, refuses, unless_refused}
use Rattle.cx_rules.specs.Secured.{Keys, SealedFrame, Secured, secure_frame, under}
use Rattle.cx_rules.specs.declared.messages.Body.{Body}
use Rattle.cx_rules.specs.declared.messages.Body.TheVariants.{Spelled, OtherCode, Misspelled}
use Rattle.cx_rules.specs.declared.requests.Taken.{Taken}
use Rattle.cx_rules.specs.declared.requests.Taken.TheVariants.{Refuses, Holds, Views}
use Rattle.cx_rules.specs.declared.requests.Waiting.{Waiting}
use Rattle.cx_rules.specs.declared.requests.Want.{Want}
use Rattle.cx_rules.specs.declared.requests.Want.TheVariants.{Tickets, Rotating}

-- ---- what is kept

-- what is kept of an open link to the monitor: the session key of the ticket for AUTH of its login; how many requests were sent on it; and
-- those that wait, the oldest first
pub record Requests : Type 0 where
  pub session : List ℕ
  pub count : ℕ
  pub waiting : List Waiting

-- of a link that has just opened
abbrev pub no_requests : List ℕ → Requests
no_requests session = record { session = session; count = 0; waiting = [] }

-- a client isn't idle while a request waits
abbrev pub is_waiting : Requests → Bool
is_waiting r = nat_lt 0 (length r.waiting)

abbrev pub is_rotating : Want → Bool
is_rotating Tickets = false
is_rotating (Rotating reading) = true

-- a daemon's fetch is under way on an open link while its request for generations waits
abbrev pub carries_fetch : Requests → Bool
carries_fetch r = list_any (λ waiting. is_rotating waiting.want) r.waiting

-- a daemon fetches at a tick where it holds no generations, or where the second of them has expired
abbrev pub is_outdated : ℕ → View → Bool
is_outdated now view = is_none (current_at now view.generations)

-- ---- a request

-- message 17: its number is its seq and its tid
abbrev pub request_message : ℕ → Request → Frame
request_message number request = message (record { seq = number; tid = number; type_ = 17 }) (request_layout.form.text request)

abbrev pub unless_unsealed : Result SealedFrame BytesFault → Result SealedFrame Reason
unless_unsealed (Ok sealed) = Ok sealed
unless_unsealed (Err why) = Err (Bytes why)

-- the next request, under the keys of the link; behind 2^64 - 1 of them there is none
abbrev pub sealed_request : Keys → Requests → Request → Result SealedFrame Reason
sealed_request keys r request =
    if r.count == 2 ^ 64 - 1 then Err Spent
    else unless_unsealed (secure_frame keys (request_message (r.count + 1) request))

-- what is kept behind it
abbrev pub behind_request : Requests → Want → Requests
behind_request r want = record r { count = r.count + 1; waiting = r.waiting ++ record { tid = r.count + 1; want = want } ∷ [] }

-- ---- a reply

-- tickets are taken where each of them was told, else none of them
abbrev pub tickets_taken : List SealEntry → Option (List Held) → Taken
tickets_taken opened None = Refuses (Login Unopened) opened
tickets_taken opened (Some held) = Holds held opened

abbrev pub rotating_taken : ℕ → List SealEntry → Option RotatingReply → Taken
rotating_taken reading opened None = Refuses (Login Unopened) opened
rotating_taken reading opened (Some reply) = Views reading reply.generations opened

-- tickets are told under the session key of the ticket for AUTH, generations under the entity's own secret. A reply of another code than its
-- request answers nothing
abbrev pub reply_taken : List ℕ → List ℕ → Want → Reply → Taken
reply_taken secret session Tickets (given.Tickets parts) = let told = told_each session parts in tickets_taken told.seals told.value
reply_taken secret session (Rotating reading) (given.Rotating sealed) =
    let told = unlocked rotating_reply_layout.form Principal secret sealed in rotating_taken reading told.seals told.value
reply_taken secret session _ _ = Refuses BadReply []

-- it has to answer the request that waits longest
abbrev pub waiting_taken : List ℕ → List ℕ → List Waiting → ℕ → Reply → Taken
waiting_taken secret session [] tid reply = Refuses BadReply []
waiting_taken secret session (first ∷ later) tid reply =
    if tid == first.tid then reply_taken secret session first.want reply else Refuses BadReply []

-- a body that can't be read goes before a wrong tid; one of another code answers nothing
abbrev pub body_taken : List ℕ → Requests → ℕ → Body Reply → Taken
body_taken secret r tid (Spelled reply) = waiting_taken secret r.session r.waiting tid reply
body_taken secret r tid OtherCode = Refuses BadReply []
body_taken secret r tid (Misspelled why) = Refuses (Bytes why) []

-- no message is due but 18
abbrev pub message_taken : List ℕ → Requests → Result Message BytesFault → Taken
message_taken secret r (Err why) = Refuses (Bytes why) []
message_taken secret r (Ok m) =
    if m.header.type_ == 18 then body_taken secret r m.header.tid (body_as reply_layout.form m.body) else Refuses (Bytes (Unexpected 17)) []

-- what comes of a frame, for an entity with this secret
abbrev pub taken : List ℕ → Requests → Frame → Taken
taken secret r f = message_taken secret r (message_in f)

-- the requests that wait, but for the oldest
abbrev pub later : List Waiting → List Waiting
later [] = []
later (first ∷ rest) = rest

-- what is kept behind a reply that was taken
abbrev pub behind_reply : Requests → Requests
behind_reply r = record r { waiting = later r.waiting }

-- ---- what a reply changes

-- each ticket stands in place of the older one of its service
abbrev pub with_tickets : MonClient → List Held → MonClient
with_tickets mon_client held = record mon_client { holdings = put_tickets mon_client.holdings held }

-- the generations are the view, with the reading at which they were asked for
abbrev pub with_view : MonClient → ℕ → List Generation → MonClient
with_view mon_client reading generations = record mon_client { view = record { generations = generations; asked = Some reading } }

abbrev pub fetched_entry : Name → ℕ → List Generation → Entry
fetched_entry daemon reading generations = entry.Fetched (record { daemon = daemon; asked = reading; generations = generations })

-- ---- rows, by the name of the open stage

module _ {Stage : Type 0} where
  -- with another own
  abbrev pub having : Arrival MonClient Stage → MonClient → Arrival MonClient Stage
  having a mon_client = record a { own = mon_client }

  -- a request is sent; where it can't be, the link is refused
  abbrev pub sends_request : (Secured → Requests → Stage) → Arrival MonClient Stage → Secured → Requests → Want → Result SealedFrame Reason → Row MonClient Stage
  sends_request open_with a s r want (Ok sealed) = goes_on a (open_with (under s sealed.keys) (behind_request r want)) sealed.bytes sealed.seals
  sends_request open_with a s r want (Err why) = refuses a why []

  -- tickets are asked for, by the sum of their services
  abbrev pub asks_tickets : (Secured → Requests → Stage) → Arrival MonClient Stage → Secured → Requests → ℕ → Row MonClient Stage
  asks_tickets open_with a s r services = sends_request open_with a s r Tickets (sealed_request s.keys r (asked.Tickets services))

  -- a daemon asks for the generations of its own type, at this reading
  abbrev pub asks_rotating : (Secured → Requests → Stage) → Arrival MonClient Stage → Secured → Requests → Row MonClient Stage
  asks_rotating open_with a s r = sends_request open_with a s r (Rotating a.reading) (sealed_request s.keys r asked.Rotating)

  -- the link is open; a daemon, which opens one in order to fetch, asks at once
  abbrev pub opens_to : (Secured → Requests → Stage) → Arrival MonClient Stage → Secured → Requests → Row MonClient Stage
  opens_to open_with a s r =
      if is_daemon_type a.own.name.kind then asks_rotating open_with a s r else goes_on a (open_with s r) [] []

  -- SERVER_IDENT, on a link whose ticket for AUTH has this session key
  abbrev pub on_server_ident : (Secured → Requests → Stage) → Arrival MonClient Stage → Secured → List ℕ → Result ServerIdent BytesFault → Row MonClient Stage
  on_server_ident open_with a s session read = unless_refused a [] read (λ ident. opens_to open_with a s (no_requests session))

  -- message 18: the tickets are held, or the generations become the view, and that they were fetched is entered
  abbrev pub takes : (Secured → Requests → Stage) → Arrival MonClient Stage → Secured → Requests → Taken → Row MonClient Stage
  takes open_with a s r (Refuses why opened) = refuses a why opened
  takes open_with a s r (Holds held opened) = goes_on (having a (with_tickets a.own held)) (open_with s (behind_reply r)) [] opened
  takes open_with a s r (Views reading generations opened) =
      record (goes_on (having a (with_view a.own reading generations)) (open_with s (behind_reply r)) [] opened)
      { entries = fetched_entry a.own.name reading generations ∷ [] }

  abbrev pub on_reply : (Secured → Requests → Stage) → Arrival MonClient Stage → Secured → Requests → Frame → Row MonClient Stage
  on_reply open_with a s r f = takes open_with a s r (taken a.own.secret r f)

  -- a frame on an open link: a keepalive, or a reply; no other is due
  abbrev pub on_open : (Secured → Requests → Stage) → Arrival MonClient Stage → Secured → Requests → Frame → Row MonClient Stage
  on_open open_with a s r f = on_upkeep_or (on_reply open_with a s r) a s (λ behind. open_with behind r) f

-- ---- the link on which one asks

module _ {Stage : Type 0} where
  abbrev pub open_or : Link Stage → Option (Secured × Requests) → Option (Link Stage × (Secured × Requests)) → Option (Link Stage × (Secured × Requests))
  open_or link None behind = behind
  open_or link (Some kept) behind = Some (link, kept)

  -- the first link that is open, by what an open stage keeps
  abbrev pub first_open : (Stage → Option (Secured × Requests)) → List (Link Stage) → Option (Link Stage × (Secured × Requests))
  first_open kept_of [] = None
  first_open kept_of (link ∷ links) = open_or link (kept_of link.stage) (first_open kept_of links)
