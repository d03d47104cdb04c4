-- By what a daemon admits a session: what is said of one step, of every daemon and every event, whatever is forged.
use Rattle.std.specs.Prelude.{◌≡◌, ◌⊎◌, ◌<◌, ◌≤◌, ℕ, true, List, [], ◌∷◌, Contains, Some, None}
use Rattle.std.specs.List.{AllByRecursion}
use Rattle.cx_run.specs.cx_authorize.specs.Daemon.{Authority, Awaited}
use Rattle.cx_run.specs.cx_authorize.specs.Verdict.{raised}
use Rattle.cx_base.specs.declared.nodes.NodeName.{NodeName}
use Rattle.cx_base.specs.declared.nodes.NodeName.TheVariants as node
use Rattle.cx_run.specs.cx_desk.specs.Handlers.{Handlers}
use Rattle.cx_journal.specs.declared.entries.Admitted.{Admitted}
use Rattle.cx_journal.specs.declared.entries.Entry.{Entry}
use Rattle.cx_journal.specs.declared.entries.Entry.TheVariants as entry
use Rattle.cx_journal.specs.declared.entries.Refused.{Refused}
use Rattle.cx_journal.specs.declared.outcomes.Reason.{Reason}
use Rattle.cx_journal.specs.declared.outcomes.Reason.TheVariants as reason
use Rattle.cx_journal.specs.declared.outcomes.TicketFault.{TicketFault}
use Rattle.cx_journal.specs.declared.outcomes.TicketFault.TheVariants as told
use Rattle.cx_journal.specs.declared.premises.KeyKind.TheVariants as kind
use Rattle.cx_laws_keys.specs.cx_login.specs.Opening.{generation_key}
use Rattle.cx_laws_keys.specs.cx_login.specs.Unlocking.{unlocked}
use Rattle.cx_rotate.specs.declared.views.View.{View}
use Rattle.cx_laws_keys.specs.cx_rules.specs.Acceptor.{AwaitsProof, AwaitsSignature, AwaitsIdent}
use Rattle.cx_laws_keys.specs.cx_rules.specs.Holdings.{MonClient}
use Rattle.cx_laws_keys.specs.cx_rules.specs.Inputs.{Input, Turn}
use Rattle.cx_laws_keys.specs.cx_rules.specs.Links.{Link, link_of}
use Rattle.cx_laws_keys.specs.cx_rules.specs.Secured.{Secured}
use Rattle.cx_run.specs.cx_rules_session.specs.DaemonRule.{AsAcceptor, AsConnector, DaemonStage, DaemonState, daemon_step}
use Rattle.cx_run.specs.cx_rules_session.specs.IncomingLinks.{IncomingStage}
use Rattle.cx_laws_keys.specs.cx_sealed.specs.Records.{authorize_layout, service_ticket_layout}
use Rattle.cx_laws_keys.specs.cx_sealed.specs.Unsealing.{spelled_by}
use Rattle.cx_laws_keys.specs.cx_sealed.specs.declared.authorize.Authorize.{Authorize}
use Rattle.cx_laws_keys.specs.cx_sealed.specs.declared.service_ticket.ServiceTicket.{ServiceTicket}
use Rattle.cx_laws_keys.specs.cx_steps.specs.Onto.{SomeOf}
use Rattle.cx_laws_keys.specs.cx_steps.specs.declared.seals.SealEntry.{SealEntry}
use Rattle.cx_laws_keys.specs.cx_steps.specs.declared.seals.SealEntry.TheVariants as seal
use Rattle.cx_cbc.specs.Opened.{opened}

-- ---- who was authorized on a link

-- a client that this authority lets in, whose session isn't open yet
abbrev pub IncomingHas : IncomingStage → Authority → Type 0
IncomingHas (AwaitsSignature s owner) authority = owner ≡ authority
IncomingHas (AwaitsIdent s owner) authority = owner ≡ authority
IncomingHas _ authority = ⊥

abbrev pub StageHas : DaemonStage → Authority → Type 0
StageHas (AsAcceptor stage) authority = IncomingHas stage authority
StageHas (AsConnector stage) authority = ⊥

-- ---- the second authorizer

-- These entries of the log begin with what opened of an authorizer, at this reading and by this view: the ticket under the key of a generation that
-- the view lists, from some blob; and under the ticket's session key what answers this challenge. The ticket expires behind the reading.
pub record IsShown (view : View) (reading challenge : ℕ) (ticket : ServiceTicket) (seals : List SealEntry) : Type 0 where
  pub id : ℕ
  pub key : List ℕ
  pub known : generation_key view.generations id ≡ Some key
  pub content : List ℕ
  pub says : spelled_by service_ticket_layout.form content ≡ Some ticket
  pub live : reading < ticket.expires
  pub authorize : Authorize
  pub answer : List ℕ
  pub shows : spelled_by authorize_layout.form answer ≡ Some authorize
  pub asked : authorize.have_challenge ≡ true
  pub answers : authorize.server_challenge_plus_one ≡ raised challenge
  pub rest : List SealEntry
  pub opened : seals ≡ seal.Opened (record { key = key; kind = kind.Service; content = content })
      ∷ seal.Opened (record { key = ticket.session; kind = kind.Session; content = answer }) ∷ rest

-- a link of this number, in this stage, was challenged, and the authority is that of the second authorizer which came at this reading: by the view
-- that the daemon looked at, as is entered, and at that very reading
pub record IsAuthorizedAt (daemon : MonClient) (number reading : ℕ) (stage : IncomingStage) (authority : Authority) (entries : List Entry) (seals : List SealEntry) : Type 0 where
  pub awaited : Awaited
  pub stage_is : stage ≡ AwaitsProof awaited
  pub at : authority.at ≡ reading
  pub view : authority.view ≡ daemon.view
  pub looked : Contains entries (entry.Looked (record { daemon = daemon.name; link = number; view = authority.view }))
  pub shown : IsShown authority.view reading awaited.challenge authority.ticket seals

-- a session is the daemon's, and is what the ticket of the authority gives that a link in this stage has, at the reading at which that was judged
pub record IsOwnedIn (daemon : MonClient) (stage : IncomingStage) (session : Admitted) : Type 0 where
  pub secured : Secured
  pub authority : Authority
  pub stage_is : stage ≡ AwaitsIdent secured authority
  pub daemon_is : session.daemon ≡ daemon.name
  pub entity : session.entity ≡ authority.ticket.name
  pub gid : session.gid ≡ authority.ticket.gid
  pub caps : session.caps ≡ authority.ticket.caps
  pub at : session.at ≡ authority.at

-- ---- refusals of a ticket

-- A ticket of this blob is refused for this fault, by this view and at this reading: its generation isn't listed; it is, and the blob opens as no
-- ticket under its key; or the blob opens as a ticket under it, which is for another global id than was claimed; or, as the first thing that is logged, as
-- one that expired at the reading or before. Of a fault of what was sealed beside it nothing is said.
abbrev pub FaultTells : View → ℕ → TicketFault → List ℕ → List SealEntry → Type 0
FaultTells view reading (told.UnknownGeneration id) blob seals = generation_key view.generations id ≡ None
FaultTells view reading (told.TicketUnopened id) blob seals =
    (key : List ℕ) × (generation_key view.generations id ≡ Some key) × ((unlocked service_ticket_layout.form kind.Service key blob).value ≡ None)
FaultTells view reading (told.GidDiffers claimed sealed_for) blob seals =
    (id : ℕ) × (key : List ℕ) × (ticket : ServiceTicket) × (generation_key view.generations id ≡ Some key)
    × ((unlocked service_ticket_layout.form kind.Service key blob).value ≡ Some ticket) × (ticket.gid ≡ sealed_for) × (claimed ≡ sealed_for → ⊥)
FaultTells view reading (told.Expired expires now) blob seals =
    (id : ℕ) × (key : List ℕ) × (content : List ℕ) × (ticket : ServiceTicket) × (rest : List SealEntry) × (generation_key view.generations id ≡ Some key)
    × (seals ≡ seal.Opened (record { key = key; kind = kind.Service; content = content }) ∷ rest) × (opened key blob ≡ Some content)
    × (spelled_by service_ticket_layout.form content ≡ Some ticket) × (ticket.expires ≡ expires) × (now ≡ reading) × (expires ≤ now)
FaultTells view reading _ blob seals = Unit {0}

-- the refusal is made by this node on the link of this number, and nothing is entered but that the daemon looked at its view, and then the refusal
pub record IsToldAt (daemon : MonClient) (me : NodeName) (number reading : ℕ) (entries : List Entry) (seals : List SealEntry) (r : Refused) (why : TicketFault)
    (blob : List ℕ) : Type 0 where
  pub node_is : r.node ≡ me
  pub link : r.link ≡ number
  pub entries_are : entries ≡ entry.Looked (record { daemon = daemon.name; link = number; view = daemon.view }) ∷ entry.Refused r ∷ []
  pub tells : FaultTells daemon.view reading why blob seals

-- ---- a step

-- a turn of a link of this number, in this stage
pub record IsTurnOf (d : DaemonState) (input : Input) (number : ℕ) (stage : IncomingStage) : Type 0 where
  pub turn : input ≡ Turn number
  pub link : Link DaemonStage
  pub found : link_of number d.node.links ≡ Some link
  pub stage_is : link.stage ≡ AsAcceptor stage

-- the link of a number had the authority before the step; or it has it by this step
abbrev pub HadAuthority : DaemonState → ℕ → Authority → Type 0
HadAuthority d number authority = SomeOf (λ (l : Link DaemonStage). (l.number ≡ number) × StageHas l.stage authority) d.node.links

pub record GetsAuthority (d : DaemonState) (input : Input) (number reading : ℕ) (authority : Authority) (entries : List Entry) (seals : List SealEntry) : Type 0 where
  pub stage : IncomingStage
  pub turn : IsTurnOf d input number stage
  pub authorized : IsAuthorizedAt d.node.own.mon_client number reading stage authority entries seals

-- each link that has one behind the step
abbrev pub LinkAuthorized : DaemonState → Input → ℕ → List Entry → List SealEntry → Link DaemonStage → Type 0
LinkAuthorized d input reading entries seals l =
    (authority : Authority) → StageHas l.stage authority → HadAuthority d l.number authority ⊎ GetsAuthority d input l.number reading authority entries seals

-- a session is admitted or resumed at a turn of a link that has an authority
pub record IsOwned (d : DaemonState) (input : Input) (session : Admitted) : Type 0 where
  pub number : ℕ
  pub stage : IncomingStage
  pub turn : IsTurnOf d input number stage
  pub owned : IsOwnedIn d.node.own.mon_client stage session

-- a ticket is refused at a turn of an incoming link
pub record IsTold (d : DaemonState) (input : Input) (reading : ℕ) (entries : List Entry) (seals : List SealEntry) (r : Refused) (why : TicketFault) (blob : List ℕ)
    : Type 0 where
  pub number : ℕ
  pub stage : IncomingStage
  pub turn : IsTurnOf d input number stage
  pub told_at : IsToldAt d.node.own.mon_client (node.Entity d.node.own.mon_client.name) number reading entries seals r why blob

abbrev pub RefusalTold : DaemonState → Input → ℕ → List Entry → List SealEntry → Refused → Reason → Type 0
RefusalTold d input reading entries seals r (reason.Ticket why blob) = IsTold d input reading entries seals r why blob
RefusalTold d input reading entries seals r _ = Unit {0}

-- what is entered: a look is its own, at the view that it has; and a daemon issues no ticket
abbrev pub EntryTold : DaemonState → Input → ℕ → List Entry → List SealEntry → Entry → Type 0
EntryTold d input reading entries seals (entry.Admitted session) = IsOwned d input session
EntryTold d input reading entries seals (entry.Resumed session) = IsOwned d input session
EntryTold d input reading entries seals (entry.Refused r) = RefusalTold d input reading entries seals r r.reason
EntryTold d input reading entries seals (entry.Looked look) = (look.daemon ≡ d.node.own.mon_client.name) × (look.view ≡ d.node.own.mon_client.view)
EntryTold d input reading entries seals (entry.Issued ticket) = ⊥
EntryTold d input reading entries seals _ = Unit {0}

-- what a step comes to: each link's authority is one that it had, or that of the second authorizer which came; each session is owned so; and each
-- refusal of a ticket tells what came of it; each look is its own; no ticket is issued
pub record Authorizes (d : DaemonState) (input : Input) (reading : ℕ) (entries : List Entry) (seals : List SealEntry) (links : List (Link DaemonStage)) : Type 0 where
  pub authorized : AllByRecursion (LinkAuthorized d input reading entries seals) links
  pub told : AllByRecursion (EntryTold d input reading entries seals) entries

-- so does each step
abbrev pub StepAuthorizes : Handlers → DaemonState → Input → ℕ → List ℕ → Type 0
StepAuthorizes handlers d input reading draw =
    let o = daemon_step handlers d input reading draw in Authorizes d input reading o.out.entries o.out.seals o.state.node.links
