-- The generations of a service over a run, of which the monitor holds the three newest: those that were ever saved, and those that stand in memory
-- alone; and which of them seals each ticket.
use Rattle.std.specs.Prelude.{◌≡◌, ◌⊎◌, ◌≤◌, ◌+◌, ℕ, max, true, List, [], ◌∷◌, ◌++◌, find, map, Contains, Some}
use Rattle.std.specs.List.{AllByRecursion}
use Rattle.cx_base.specs.declared.kinds.EntityType.{EntityType}
use Rattle.cx_base.specs.declared.nodes.NodeName.TheVariants as node
use Rattle.cx_laws_tickets.specs.cx_cbc.specs.Envelope.{sealed}
use Rattle.cx_dice.specs.Draws.{has_keys, rotation_of, session_of}
use Rattle.cx_laws_tickets.specs.cx_journal.specs.declared.entries.Entry.TheVariants as entry
use Rattle.cx_laws_tickets.specs.cx_journal.specs.declared.entries.Issued.{Issued}
use Rattle.cx_laws_tickets.specs.cx_keyring.specs.Entries.{is_named}
use Rattle.cx_laws_tickets.specs.cx_keyring.specs.declared.entries.Entry.{Entry as Principal}
use Rattle.cx_laws_tickets.specs.cx_keyserver.specs.Issuing.{caps_for, current_at}
use Rattle.cx_laws_tickets.specs.cx_keyserver.specs.Servers.{generations_of, life_of}
use Rattle.cx_rotate.specs.Rotation.{rotated}
use Rattle.cx_rotate.specs.declared.generations.Generation.{Generation}
use Rattle.cx_laws_tickets.specs.cx_run.specs.Happenings.{Happening}
use Rattle.cx_laws_tickets.specs.cx_run.specs.Opening.{Setup, first_state, principal_of}
use Rattle.cx_laws_tickets.specs.cx_run.specs.Points.{EachPoint, Point, entries_at, nodes_past, points}
use Rattle.cx_laws_tickets.specs.cx_sealed.specs.Records.{service_ticket_layout}
use Rattle.cx_laws_tickets.specs.cx_sealed.specs.declared.service_ticket.ServiceTicket.{ServiceTicket}

-- ---- generations one behind the other

-- a generation, and the reading of the monitor's clock at which it was added
pub record Added : Type 0 where
  pub generation : Generation
  pub reading : ℕ

-- the generations of a service, the newest first: those that were ever saved, and those that stand in memory alone
pub record Chain : Type 0 where
  pub kept : List Added
  pub unsaved : List Added

abbrev pub no_chain : Chain
no_chain = record { kept = []; unsaved = [] }

abbrev pub all_in : Chain → List Added
all_in chain = chain.unsaved ++ chain.kept

-- the three newest, the oldest of them first, as the monitor holds them
abbrev pub three_newest : List Added → List Generation
three_newest (newest ∷ second ∷ third ∷ older) = third.generation ∷ second.generation ∷ newest.generation ∷ []
three_newest _ = []

-- but for the first three, one is added once the one before the newest has expired
abbrev pub ComesDue : Added → List Added → Type 0
ComesDue x (newest ∷ second ∷ third ∷ older) = second.generation.expires ≤ x.reading
ComesDue x _ = Unit {0}

-- one follows those before it: ids rise by one from 1, and it expires a life behind the later of the one before it and of the end of a life from when
-- it was added
abbrev pub Follows : ℕ → Added → List Added → Type 0
Follows life x [] = (x.generation.id ≡ 1) × (x.generation.expires ≡ x.reading + life)
Follows life x (newest ∷ older) =
    (x.generation.id ≡ newest.generation.id + 1) × (x.generation.expires ≡ max (x.reading + life) newest.generation.expires + life) × ComesDue x (newest ∷ older)

-- so does each of them; neighbours expire a life apart
abbrev pub AreSpaced : ℕ → List Added → Type 0
AreSpaced life [] = Unit {0}
AreSpaced life (x ∷ older) = Follows life x older × AreSpaced life older

-- ---- tickets

-- what a ticket says to the service, with this session key
abbrev pub said_by : Issued → List ℕ → ServiceTicket
said_by t session =
    record { session = session; name = t.entity; gid = t.gid; created = t.created; expires = t.expires; caps = t.caps }

-- a ticket is sealed under this generation's key, and names its id
pub record IsSealedUnder (g : Generation) (t : Issued) : Type 0 where
  pub id : t.generation ≡ g.id
  pub session : List ℕ
  pub blob : t.blob ≡ sealed g.key (service_ticket_layout.form.text (said_by t session))

-- so it is under the one of these that was current when it was made, and it lives for one life
pub record IsUnderCurrent (life : ℕ) (generations : List Generation) (t : Issued) : Type 0 where
  pub of : Generation
  pub current : current_at t.created generations ≡ Some of
  pub under : IsSealedUnder of t
  pub expires : t.expires ≡ t.created + life

-- it is made at this reading, with this draw, of which a part is its session key; and it is for an entity of this keyring, with the caps that this one has
-- for the service
pub record IsMadeBy (ring : List Principal) (reading : ℕ) (draw session : List ℕ) (t : Issued) : Type 0 where
  pub created : t.created ≡ reading
  pub keyed : has_keys t.service ≡ true
  pub session_is : session ≡ session_of t.service draw
  pub principal : Principal
  pub named : find (is_named t.entity) ring ≡ Some principal
  pub caps : caps_for t.service principal ≡ Some t.caps

-- so is a ticket made, and sealed
abbrev pub IsMadeUnder : ℕ → List Generation → List Principal → ℕ → List ℕ → Issued → Type 0
IsMadeUnder life generations ring reading draw t =
    (under : IsUnderCurrent life generations t) × IsMadeBy ring reading draw under.under.session t

-- ---- a run

-- a generation was added at this point: by the monitor, at the reading of the event, and under a key of its draw
pub record IsAddedAt (service : EntityType) (p : Point) (x : Added) : Type 0 where
  pub monitor : p.happening.node ≡ node.Monitor
  pub reading : x.reading ≡ p.happening.reading
  pub key : Contains (rotation_of service p.happening.draw) x.generation.key

-- what an event does to what stands in memory alone: it stays so; or all is saved; or it is lost, where the monitor begins anew from what was saved
pub data Fate : Type 0 where
  StaysInMemory : Fate
  BecomesSaved : Fate
  BecomesLost : Fate

-- behind an event that added these
abbrev pub chain_behind : Fate → List Added → Chain → Chain
chain_behind StaysInMemory added before = record { kept = before.kept; unsaved = added ++ before.unsaved }
chain_behind BecomesSaved added before = record { kept = added ++ (before.unsaved ++ before.kept); unsaved = [] }
chain_behind BecomesLost added before = record { kept = before.kept; unsaved = [] }

-- how long a service's secrets and tickets live in a run, in nanoseconds
abbrev pub life_in : Setup → EntityType → ℕ
life_in setup service = life_of (first_state setup) service

-- the entities of a run, as its keyring has them
abbrev pub ring_in : Setup → List Principal
ring_in setup = map principal_of setup.entities

-- the generations of a service in the state that the monitor saved last, behind a point, and in its memory
abbrev pub saved_past : EntityType → Point → List Generation
saved_past service p = generations_of (nodes_past p).monitor.own.saved service

abbrev pub present_past : EntityType → Point → List Generation
present_past service p = generations_of (nodes_past p).monitor.own.server.state service

-- from the one chain to the other at this point: what was added, none or what a rotation adds; what was saved; and each ticket of the service is under
-- the current one of those that are saved, made at the event's reading with its draw, for an entity of the run and with the caps that it has
pub record MovesOn (setup : Setup) (service : EntityType) (p : Point) (before behind : Chain) : Type 0 where
  pub added : List Added
  pub here : AllByRecursion (IsAddedAt service p) added
  pub rotates : (added ≡ []) ⊎ (three_newest (added ++ all_in before)
      ≡ rotated p.happening.reading (life_in setup service) (rotation_of service p.happening.draw) (three_newest (all_in before)))
  pub fate : Fate
  pub behind_is : behind ≡ chain_behind fate added before
  pub saved : saved_past service p ≡ three_newest behind.kept
  pub present : present_past service p ≡ three_newest (all_in behind)
  pub issued : (t : Issued) → Contains (entries_at p) (entry.Issued t) → t.service ≡ service
      → IsMadeUnder (life_in setup service) (three_newest behind.kept) (ring_in setup) p.happening.reading p.happening.draw t

-- behind these points the generations of the service are those of this chain
abbrev pub IsChained : Setup → EntityType → List Point → Chain → Type 0
IsChained setup service [] chain = chain ≡ no_chain
IsChained setup service (p ∷ older) chain = (before : Chain) × IsChained setup service older before × MovesOn setup service p before chain

-- the generations of the service go on from one to the next over all these points
pub record HasChain (setup : Setup) (service : EntityType) (past : List Point) : Type 0 where
  pub chain : Chain
  pub chained : IsChained setup service past chain
  pub spaced : AreSpaced (life_in setup service) (all_in chain)

-- over all these points one generation of the service has this id: each that is saved, and each under which a ticket is sealed
pub record IsOne (service : EntityType) (id : ℕ) (past : List Point) : Type 0 where
  pub generation : Generation
  pub saved : EachPoint (λ older p. (g : Generation) → Contains (saved_past service p) g → g.id ≡ id → g ≡ generation) past
  pub issued : EachPoint (λ older p. (t : Issued) → Contains (entries_at p) (entry.Issued t) → t.service ≡ service → t.generation ≡ id → IsSealedUnder generation t) past

-- what is so of every list of events, from every opening, whatever is forged
pub record KeepsGenerations (setup : Setup) (hs : List Happening) : Type 0 where
  pub chained : (service : EntityType) → HasChain setup service (points setup hs)
  pub one : (service : EntityType) (id : ℕ) → IsOne service id (points setup hs)
