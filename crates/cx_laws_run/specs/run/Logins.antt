-- Who asked for a ticket: what is said of each point at which one is issued.
use Rattle.std.specs.Prelude.{◌≡◌, ◌≢◌, ◌⊎◌, ℕ, false, List, [], ◌∷◌, ◌++◌, Contains, Some}
use Rattle.std.specs.Int.{w64, to_le_bytes}
use Rattle.cx_base.specs.Names.{Name}
use Rattle.cx_base.specs.declared.kinds.EntityType.TheVariants.{Auth}
use Rattle.cx_base.specs.declared.nodes.NodeName.TheVariants as node
use Rattle.cx_journal.specs.declared.entries.Entry.TheVariants as entry
use Rattle.cx_journal.specs.declared.entries.Issued.{Issued}
use Rattle.cx_journal.specs.declared.premises.KeyKind.TheVariants as kind
use Rattle.cx_laws_links.specs.cx_laws_tickets.specs.cx_login.specs.Monitor.{Offer}
use Rattle.cx_laws_links.specs.cx_laws_tickets.specs.cx_rules.specs.Acceptor.{AwaitsProof, Open}
use Rattle.cx_laws_links.specs.cx_laws_tickets.specs.cx_rules.specs.Inputs.{Turn}
use Rattle.cx_laws_links.specs.cx_laws_tickets.specs.cx_rules.specs.Judged.{LogsDraw}
use Rattle.cx_laws_links.specs.cx_laws_tickets.specs.cx_rules.specs.Links.{Link, link_of}
use Rattle.cx_laws_links.specs.cx_laws_tickets.specs.cx_rules.specs.Monitor.{MonitorStage, Offered}
use Rattle.cx_laws_links.specs.cx_laws_tickets.specs.cx_rules.specs.Secured.{Secured}
use Rattle.cx_laws_links.specs.cx_laws_tickets.specs.cx_rules.specs.declared.responses.Bearer.{Bearer}
use Rattle.cx_laws_links.specs.cx_laws_tickets.specs.cx_run.specs.Happenings.{Happening}
use Rattle.cx_laws_links.specs.cx_laws_tickets.specs.cx_run.specs.Opening.{Setup, leaked_of}
use Rattle.cx_laws_links.specs.cx_laws_tickets.specs.cx_run.specs.Points.{Before, EachPoint, Point, Since, entries_at, logged_until, nodes_past, opens_at, points, seals_at}
use Rattle.cx_steps.specs.Onto.{SomeOf}
use Rattle.cx_steps.specs.Premises.{Seals, Signs}
use Rattle.cx_steps.specs.declared.seals.DrawMark.TheVariants as draw
use Rattle.cx_steps.specs.declared.seals.Logged.{Logged}
use Rattle.cx_steps.specs.declared.seals.SealEntry.{SealEntry}
use Rattle.cx_steps.specs.declared.seals.SealEntry.TheVariants as seal
use Rattle.cx_steps.specs.declared.seals.SealMark.{SealMark}

-- the content of a proof: both challenges, under the secret of the entity that was sent the first one
abbrev pub proof_of : Offer → ℕ → SealMark
proof_of offer client_challenge =
    record { key = offer.secret; kind = kind.Proof; content = to_le_bytes w64 offer.challenge ++ to_le_bytes w64 client_challenge }

-- ---- of every run

-- the turn of the monitor's link of this number that drew the challenge of this offer, and behind which the link waits for the proof
pub record Offers (number : ℕ) (offered : Offered) (at : Point) : Type 0 where
  pub monitor : at.happening.node ≡ node.Monitor
  pub turn : at.happening.input ≡ Turn number
  pub drew : LogsDraw (draw.Challenge offered.offer.challenge) (seals_at at)
  pub link : Link MonitorStage
  pub found : link_of number (nodes_past at).monitor.links ≡ Some link
  pub stage : link.stage ≡ AwaitsProof offered

-- a turn of the monitor's link of this number which logs first that something was found equal
pub record ChecksOn (number : ℕ) (p : Point) : Type 0 where
  pub monitor : p.happening.node ≡ node.Monitor
  pub turn : p.happening.input ≡ Turn number
  pub mark : SealMark
  pub rest : List SealEntry
  pub checked : seals_at p ≡ seal.Checked mark ∷ rest

-- at one of these points, and since then no link of this number was opened at the monitor, and nothing was found equal on it: so it is still that link, and no proof was
-- found equal on it yet
abbrev pub UncheckedSince : ℕ → (List Point → Point → Type 0) → List Point → Type 0
UncheckedSince number P [] = ⊥
UncheckedSince number P (p ∷ older) = P older p ⊎ ((opens_at node.Monitor number p ≡ false) × (ChecksOn number p → ⊥) × UncheckedSince number P older)

-- the turn of the monitor's link of this number at which a proof was found equal, under the secret that was drawn as this entity's own, over the
-- challenge that was drawn on that link and offered to this entity; and the first since that draw: so no draw of that link lets in twice on it
pub record Proves (setup : Setup) (number : ℕ) (name : Name) (older : List Point) (p : Point) : Type 0 where
  pub monitor : p.happening.node ≡ node.Monitor
  pub turn : p.happening.input ≡ Turn number
  pub link : Link MonitorStage
  pub found : link_of number p.nodes.monitor.links ≡ Some link
  pub offered : Offered
  pub stage : link.stage ≡ AwaitsProof offered
  pub named : offered.offer.name ≡ name
  pub secret : SomeOf (λ (at : Logged). at.entry ≡ seal.Drawn (draw.Principal offered.offer.secret name)) (logged_until setup older)
  pub drew : UncheckedSince number (λ _ at. Offers number offered at) older
  pub client_challenge : ℕ
  pub rest : List SealEntry
  pub checked : seals_at p ≡ seal.Checked (proof_of offered.offer client_challenge) ∷ rest

-- the turn of a link of the monitor that is open: the ticket is for the entity whose link it is, under the global id that this entity has on it, for
-- another service than AUTH; and this entity proved itself on that very link
pub record IsRenewal (setup : Setup) (older : List Point) (p : Point) (ticket : Issued) : Type 0 where
  pub monitor : p.happening.node ≡ node.Monitor
  pub number : ℕ
  pub turn : p.happening.input ≡ Turn number
  pub link : Link MonitorStage
  pub found : link_of number p.nodes.monitor.links ≡ Some link
  pub secured : Secured
  pub bearer : Bearer
  pub stage : link.stage ≡ Open secured bearer
  pub named : ticket.entity ≡ bearer.name
  pub gid : ticket.gid ≡ bearer.gid
  pub service : ticket.service ≢ Auth
  pub login : Since node.Monitor number (Proves setup number ticket.entity) older

-- behind a proof of the ticket's entity, or on the open link of this entity: a ticket for AUTH is asked for by a proof alone
abbrev pub IsAskedFor : Setup → List Point → Point → Issued → Type 0
IsAskedFor setup older p ticket = ((number : ℕ) × Proves setup number ticket.entity older p) ⊎ IsRenewal setup older p ticket

-- each ticket of this point was asked for
abbrev pub Asks : Setup → List Point → Point → Type 0
Asks setup older p = (ticket : Issued) → Contains (entries_at p) (entry.Issued ticket) → IsAskedFor setup older p ticket

-- what is so of every list of events, from every opening, whatever is forged
pub record Stands (setup : Setup) (hs : List Happening) : Type 0 where
  pub asked : EachPoint (Asks setup) (points setup hs)

-- ---- of a run that is sound and fresh

-- the proof was signed before, by that entity's own node
abbrev pub OwnLogin : Setup → ℕ → Name → List Point → Point → Type 0
OwnLogin setup number name older p = (proves : Proves setup number name older p)
    × SomeOf (λ (at : Logged). (at.node ≡ node.Entity name) × Signs (proof_of proves.offered.offer proves.client_challenge) at.entry) (logged_until setup older)

-- what opened first at this point came on a link, and that entity's own node sealed it before
abbrev pub OwnFrame : Setup → Name → List Point → Point → Type 0
OwnFrame setup name older p = (mark : SealMark) × (rest : List SealEntry) × (seals_at p ≡ seal.Opened mark ∷ rest) × (mark.kind ≡ kind.Connection)
    × SomeOf (λ (at : Logged). (at.node ≡ node.Entity name) × Seals mark at.entry) (logged_until setup older)

-- so is each ticket of this point asked for, whose entity isn't leaked: by such a proof, or by such a frame on the open link on which there was one
abbrev pub LogsIn : Setup → List Point → Point → Type 0
LogsIn setup older p = (ticket : Issued) → Contains (entries_at p) (entry.Issued ticket) → (Contains (leaked_of setup) ticket.entity → ⊥)
    → ((number : ℕ) × OwnLogin setup number ticket.entity older p)
    ⊎ ((renewal : IsRenewal setup older p ticket) × Since node.Monitor renewal.number (OwnLogin setup renewal.number ticket.entity) older
    × OwnFrame setup ticket.entity older p)

-- a proof that was found equal at this point was found so at no point before, on whichever link: no proof over its challenge was
abbrev pub ProvesOnce : Setup → List Point → Point → Type 0
ProvesOnce setup older p = (number : ℕ) (name : Name) (proves : Proves setup number name older p)
    → Before (λ before q. (other : ℕ) × (whose : Name) × (earlier : Proves setup other whose before q) × (earlier.offered.offer.challenge ≡ proves.offered.offer.challenge)) older
    → ⊥

-- at each of these points: one proof, one login
pub record LogIn (setup : Setup) (past : List Point) : Type 0 where
  pub asked : EachPoint (LogsIn setup) past
  pub once : EachPoint (ProvesOnce setup) past
