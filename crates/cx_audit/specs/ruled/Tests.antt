-- What the auditor computes of an entry and of those before it. No public clause speaks of it.
use Rattle.std.specs.Prelude.{ℕ, ◌-◌, ◌==◌, ◌&&◌, ◌||◌, ◌≡◌, ◌<◌, nat_lt, not, Bool, true, false, List, [], ◌∷◌, filter, length, drop, Option, Some, None, option_and_then, if◌then◌else◌}
use Rattle.std.specs.List.{list_any}
use Rattle.std.specs.Option.{option_map, option_map_or}
use Rattle.std.specs.Str.{bytes_eq}
use Rattle.cx_base.specs.Names.{Name, same_kind, same_name}
use Rattle.cx_base.specs.declared.kinds.EntityType.TheVariants.{Auth}
use Rattle.cx_base.specs.declared.nodes.NodeName.{NodeName}
use Rattle.cx_base.specs.declared.nodes.NodeName.TheVariants as node
use Rattle.cx_base.specs.declared.kinds.Access.{Access}
use Rattle.cx_base.specs.declared.kinds.Access.TheVariants.{Read, Write, Exec}
use Rattle.cx_base.specs.declared.operations.Operation.{Operation}
use Rattle.cx_journal.specs.KeepsKeys.{has_generation, is_look}
use Rattle.cx_journal.specs.Leaks.{is_leak}
use Rattle.cx_journal.specs.Sessions.{is_turn_of, last_such, opened_for, session_at}
use Rattle.cx_journal.specs.PrefixOfSent.{all_handled_under, sent_under}
use Rattle.cx_journal.specs.declared.entries.Admitted.{Admitted}
use Rattle.cx_journal.specs.declared.entries.Entry.{Entry}
use Rattle.cx_journal.specs.declared.entries.Entry.TheVariants as entry
use Rattle.cx_journal.specs.declared.entries.Handled.{Handled}
use Rattle.cx_journal.specs.declared.entries.Issued.{Issued}
use Rattle.cx_journal.specs.declared.outcomes.Reason.{Reason}
use Rattle.cx_journal.specs.declared.outcomes.Reason.TheVariants as reason
use Rattle.cx_journal.specs.declared.outcomes.TicketFault.{TicketFault}
use Rattle.cx_journal.specs.declared.outcomes.TicketFault.TheVariants as fault
use Rattle.cx_audit.specs.indexed.Keyed.{bytes_key, name_key, number_key, under}
use Rattle.cx_audit.specs.declared.index.Index.{Index}
use Rattle.cx_audit.specs.declared.key.Key.{Key}
use Rattle.cx_audit.specs.declared.known.Known.{Known}
use Rattle.cx_audit.specs.declared.rules.Rule.{Rule}
use Rattle.cx_audit.specs.declared.rules.Rule.TheVariants as rule

-- ---- tickets

-- whether a ticket is for the session's entity, with its global id and caps, and for the daemon's type as its service
abbrev pub is_for : Admitted → Issued → Bool
is_for session t =
    same_name t.entity session.entity && (t.gid == session.gid) && bytes_eq t.caps session.caps && same_kind t.service session.daemon.kind

-- whether the entry issued a ticket that backs the session
abbrev pub backs : Admitted → Entry → Bool
backs session (entry.Issued t) = is_for session t && nat_lt session.at t.expires
backs session _ = false

-- whether it issued a ticket with this one's global id
abbrev pub has_gid : Issued → Entry → Bool
has_gid ticket (entry.Issued other) = other.gid == ticket.gid
has_gid ticket _ = false

-- whether it issued one to another entity
abbrev pub differs : Issued → Entry → Bool
differs ticket (entry.Issued other) = (other.gid == ticket.gid) && not (same_name other.entity ticket.entity)
differs ticket _ = false

-- whether it issued one that this one renews
abbrev pub renews : Issued → Entry → Bool
renews ticket (entry.Issued old) =
    same_kind old.service Auth && same_name old.entity ticket.entity && (old.gid == ticket.gid) && nat_lt ticket.created old.expires
renews ticket _ = false

-- whether it issued one to the same entity
abbrev pub owns : Issued → Entry → Bool
owns ticket (entry.Issued other) = (other.gid == ticket.gid) && same_name other.entity ticket.entity
owns ticket _ = false

-- whether a ticket shares its global id as the law says, by the entries that tell of the id's entities, and those that issued
-- its tickets
abbrev pub shares_gid : List Entry → List Entry → Issued → Bool
shares_gid owners tickets ticket =
    not (list_any (differs ticket) owners)
    && (not (same_kind ticket.service Auth) || (not (list_any (has_gid ticket) owners) || list_any (renews ticket) tickets))

-- ---- refusals for a generation

-- whether the entry issued a ticket of this blob for the daemon's service under this generation
abbrev pub is_issued_as : Name → ℕ → List ℕ → Entry → Bool
is_issued_as daemon generation blob (entry.Issued t) = bytes_eq t.blob blob && same_kind t.service daemon.kind && (t.generation == generation)
is_issued_as daemon generation blob _ = false

-- whether there is a look, and it doesn't list the generation
abbrev pub lacks : ℕ → Option Entry → Bool
lacks generation (Some (entry.Looked look)) = not (has_generation look.view.generations generation)
lacks generation _ = false

-- by the entries among which that ticket stands, and those among which the daemon's looks do
abbrev pub keeps_key : List Entry → List Entry → Name → ℕ → ℕ → List ℕ → Bool
keeps_key tickets looks daemon link generation blob =
    not (list_any (is_issued_as daemon generation blob) tickets) || lacks generation (last_such (is_look daemon link) looks)

-- ---- what was handled and what was sent

-- whether two operations are one
abbrev pub same_access : Access → Access → Bool
same_access Read Read = true
same_access Write Write = true
same_access Exec Exec = true
same_access _ _ = false

abbrev pub same_operation : Operation → Operation → Bool
same_operation a b =
    same_access a.access b.access && bytes_eq a.pool b.pool && bytes_eq a.namespace b.namespace && bytes_eq a.object b.object
    && bytes_eq a.bytes b.bytes

-- whether this is what was sent
abbrev pub is_sent : ℕ × Operation → ℕ × Operation → Bool
is_sent a b = (a.0 == b.0) && same_operation a.1 b.1

-- whether behind so many that were sent under the cookie by the client the next one is this
abbrev pub is_sent_behind : ℕ → Name → ℕ × Operation → ℕ → List Entry → Bool
is_sent_behind cookie client what left [] = false
is_sent_behind cookie client what left (e ∷ es) =
    option_map_or (λ sent. if left == 0 then is_sent sent what else is_sent_behind cookie client what (left - 1) es) (sent_under cookie client e)
    (is_sent_behind cookie client what left es)

-- whether the entry sent this
abbrev pub is_this : ℕ × Operation → Entry → Bool
is_this what (entry.Sent s) = is_sent (s.seq, s.operation) what
is_this what _ = false

-- whether the first of these entries did
abbrev pub is_next : ℕ × Operation → List Entry → Bool
is_next what [] = false
is_next what (e ∷ es) = is_this what e

-- ---- the least rule that an entry breaks

-- the rule, unless this holds
abbrev pub unless : Bool → Rule → Option Rule
unless true broken = None
unless false broken = Some broken

abbrev pub broken_unleaked : Bool → Option Rule → Option Rule
broken_unleaked true broken = None
broken_unleaked false broken = broken

-- by the entries themselves
abbrev pub judged_order : List Entry → Handled → Admitted → Option Rule
judged_order earlier h session =
    unless (is_sent_behind h.cookie session.entity (h.seq, h.operation) (length (all_handled_under h.cookie session.entity [] earlier)) earlier) rule.PrefixOfSent

abbrev pub judged_handled : List Entry → List Entry → Handled → Option Admitted → Option Rule
judged_handled whole earlier h None = Some rule.InSession
judged_handled whole earlier h (Some session) = broken_unleaked (list_any (is_leak session.entity) whole) (judged_order earlier h session)

abbrev pub judged_generation : List Entry → Name → ℕ → TicketFault → List ℕ → Option Rule
judged_generation earlier daemon link (fault.UnknownGeneration generation) blob = unless (keeps_key earlier earlier daemon link generation blob) rule.KeepsKeys
judged_generation earlier daemon link (fault.TicketUnopened generation) blob = unless (keeps_key earlier earlier daemon link generation blob) rule.KeepsKeys
judged_generation earlier daemon link _ blob = None

abbrev pub judged_refusal : List Entry → NodeName → ℕ → Reason → Option Rule
judged_refusal earlier (node.Entity daemon) link (reason.Ticket why blob) = judged_generation earlier daemon link why blob
judged_refusal earlier _ link _ = None

abbrev pub judged : List Entry → List Entry → Entry → Option Rule
judged whole earlier (entry.Issued t) = unless (shares_gid earlier earlier t) rule.GidOnce
judged whole earlier (entry.Admitted a) = unless (list_any (backs a) earlier) rule.Backed
judged whole earlier (entry.Resumed a) = unless (list_any (backs a) earlier) rule.Backed
judged whole earlier (entry.Handled h) = judged_handled whole earlier h (session_at earlier h)
judged whole earlier (entry.Refused r) = judged_refusal earlier r.node r.link r.reason
judged whole earlier _ = None

-- ---- what is known of the earlier entries

abbrev pub gid_key : Entry → Option Key
gid_key (entry.Issued t) = Some (number_key t.gid)
gid_key _ = None

-- a ticket that gives its entity a global id anew tells whose the id is; the further ones needn't
abbrev pub owner_key : Known → Entry → Option Key
owner_key known (entry.Issued t) = if list_any (owns t) (under known.owners (number_key t.gid)) then None else Some (number_key t.gid)
owner_key known _ = None

abbrev pub blob_key : Entry → Option Key
blob_key (entry.Issued t) = Some (bytes_key t.blob t.generation)
blob_key _ = None

abbrev pub look_key : Entry → Option Key
look_key (entry.Looked look) = Some (name_key look.daemon look.link 0)
look_key _ = None

abbrev pub sent_key : Entry → Option Key
sent_key (entry.Sent s) = Some (name_key s.client s.cookie 0)
sent_key _ = None

abbrev pub leak_key : Entry → Option Key
leak_key (entry.Leaked client) = Some (name_key client 0 0)
leak_key _ = None

abbrev pub restart_key : Entry → Option Key
restart_key (entry.Restarted (node.Entity daemon)) = Some (name_key daemon 0 0)
restart_key _ = None

-- how often the daemon began anew
abbrev pub rounds : Known → Name → ℕ
rounds known daemon = length (under known.restarts (name_key daemon 0 0))

-- the sessions that a daemon opens and ends have its rounds with them, so that a restart leaves none of them
abbrev pub turn_key : Known → Entry → Option Key
turn_key known (entry.Admitted a) = Some (name_key a.daemon a.session (rounds known a.daemon))
turn_key known (entry.Resumed a) = Some (name_key a.daemon a.session (rounds known a.daemon))
turn_key known (entry.Ended e) = Some (name_key e.daemon e.session (rounds known e.daemon))
turn_key known _ = None

-- the session that the operation would be handled in
abbrev pub found_session : Known → Handled → Option Admitted
found_session known h = option_and_then (opened_for h) (last_such (is_turn_of h) (under known.turns (name_key h.daemon h.session (rounds known h.daemon))))

-- what is handled stands under the entity of its session and the cookie
abbrev pub handled_key : Known → Entry → Option Key
handled_key known (entry.Handled h) = option_map (λ session. name_key session.entity h.cookie 0) (found_session known h)
handled_key known _ = None

-- whether the entry issued a ticket of this global id; one of this blob under this generation; sent an operation of this
-- client under this cookie
abbrev pub gives : ℕ → Entry → Bool
gives gid (entry.Issued t) = t.gid == gid
gives gid _ = false

abbrev pub is_blob : List ℕ → ℕ → Entry → Bool
is_blob blob generation (entry.Issued t) = bytes_eq t.blob blob && (t.generation == generation)
is_blob blob generation _ = false

abbrev pub is_of_client : Name → ℕ → Entry → Bool
is_of_client client cookie (entry.Sent s) = same_name s.client client && (s.cookie == cookie)
is_of_client client cookie _ = false

-- an index has the entries that say who leaked
abbrev pub AreLeaks : List Entry → Index → Type 0
AreLeaks entries leaks = (name : Name) → under leaks (name_key name 0 0) ≡ filter (is_leak name) entries

-- what is known of no entries
pub record Starts (given : Index) (known : Known) : Type 0 where
  pub leaks : known.leaks ≡ given
  pub owners : (key : Key) → under known.owners key ≡ []
  pub tickets : (key : Key) → under known.tickets key ≡ []
  pub blobs : (key : Key) → under known.blobs key ≡ []
  pub looks : (key : Key) → under known.looks key ≡ []
  pub sent : (key : Key) → under known.sent key ≡ []
  pub handled : (key : Key) → under known.handled key ≡ []
  pub restarts : (key : Key) → under known.restarts key ≡ []
  pub turns : (key : Key) → under known.turns key ≡ []

-- what is known behind the earlier entries of a whole journal
pub record Knows (whole earlier : List Entry) (known : Known) : Type 0 where
  pub leaked : AreLeaks whole known.leaks
  pub taken : (t : Issued) → list_any (differs t) (under known.owners (number_key t.gid)) ≡ list_any (differs t) earlier
  pub given : (t : Issued) → list_any (has_gid t) (under known.owners (number_key t.gid)) ≡ list_any (has_gid t) earlier
  pub tickets : (gid : ℕ) → under known.tickets (number_key gid) ≡ filter (gives gid) earlier
  pub blobs : (blob : List ℕ) (generation : ℕ) → under known.blobs (bytes_key blob generation) ≡ filter (is_blob blob generation) earlier
  pub looks : (daemon : Name) (link : ℕ) → under known.looks (name_key daemon link 0) ≡ filter (is_look daemon link) earlier
  pub sent : (client : Name) (cookie : ℕ) → under known.sent (name_key client cookie 0) ≡ filter (is_of_client client cookie) earlier
  pub handled : (entity : Name) (cookie : ℕ) → length (under known.handled (name_key entity cookie 0)) ≡ length (all_handled_under cookie entity [] earlier)
  pub stands : (h : Handled) → found_session known h ≡ session_at earlier h
  pub fresh : (daemon : Name) (session round : ℕ) → rounds known daemon < round → under known.turns (name_key daemon session round) ≡ []

-- ---- the least rule that an entry breaks, by what is known

abbrev pub broken_order : Known → Handled → Admitted → Option Rule
broken_order known h session =
    unless (is_next (h.seq, h.operation) (drop (length (under known.handled (name_key session.entity h.cookie 0))) (under known.sent (name_key session.entity h.cookie 0)))) rule.PrefixOfSent

abbrev pub broken_handled : Known → Handled → Option Admitted → Option Rule
broken_handled known h None = Some rule.InSession
broken_handled known h (Some session) =
    broken_unleaked (list_any (is_leak session.entity) (under known.leaks (name_key session.entity 0 0))) (broken_order known h session)

abbrev pub broken_generation : Known → Name → ℕ → TicketFault → List ℕ → Option Rule
broken_generation known daemon link (fault.UnknownGeneration generation) blob =
    unless (keeps_key (under known.blobs (bytes_key blob generation)) (under known.looks (name_key daemon link 0)) daemon link generation blob) rule.KeepsKeys
broken_generation known daemon link (fault.TicketUnopened generation) blob =
    unless (keeps_key (under known.blobs (bytes_key blob generation)) (under known.looks (name_key daemon link 0)) daemon link generation blob) rule.KeepsKeys
broken_generation known daemon link _ blob = None

abbrev pub broken_refusal : Known → NodeName → ℕ → Reason → Option Rule
broken_refusal known (node.Entity daemon) link (reason.Ticket why blob) = broken_generation known daemon link why blob
broken_refusal known _ link _ = None

abbrev pub broken_by : Known → Entry → Option Rule
broken_by known (entry.Issued t) = unless (shares_gid (under known.owners (number_key t.gid)) (under known.tickets (number_key t.gid)) t) rule.GidOnce
broken_by known (entry.Admitted a) = unless (list_any (backs a) (under known.tickets (number_key a.gid))) rule.Backed
broken_by known (entry.Resumed a) = unless (list_any (backs a) (under known.tickets (number_key a.gid))) rule.Backed
broken_by known (entry.Handled h) = broken_handled known h (found_session known h)
broken_by known (entry.Refused r) = broken_refusal known r.node r.link r.reason
broken_by known _ = None
