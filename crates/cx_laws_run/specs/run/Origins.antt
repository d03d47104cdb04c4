-- To what a session that is admitted or resumed goes back: to the authorizer that was judged on its link, to the ticket's issue, to the proof of that
-- login, and to the entity's own node.
use Rattle.std.specs.Prelude.{◌≡◌, ◌==◌, ◌&&◌, ◌⊎◌, ℕ, Bool, true, false, List, [], ◌∷◌, Contains, None, Some}
use Rattle.cx_laws_links.specs.cx_laws_tickets.specs.authorize.Admission.{IsShown}
use Rattle.cx_laws_links.specs.cx_laws_tickets.specs.cx_authorize.specs.Daemon.{Awaited}
use Rattle.cx_laws_links.specs.cx_laws_tickets.specs.cx_sealed.specs.declared.service_ticket.ServiceTicket.{ServiceTicket}
use Rattle.cx_base.specs.declared.nodes.NodeName.{NodeName}
use Rattle.cx_base.specs.declared.nodes.NodeName.TheVariants as node
use Rattle.cx_journal.specs.Backed.{Backs}
use Rattle.cx_journal.specs.KeepsKeys.{has_generation}
use Rattle.cx_journal.specs.declared.entries.Admitted.{Admitted}
use Rattle.cx_journal.specs.declared.entries.Entry.TheVariants as entry
use Rattle.cx_journal.specs.declared.entries.Issued.{Issued}
use Rattle.cx_journal.specs.declared.entries.Looked.{Looked}
use Rattle.cx_laws_links.specs.cx_laws_tickets.specs.cx_rules.specs.Acceptor.{AwaitsProof}
use Rattle.cx_laws_links.specs.cx_laws_tickets.specs.cx_rules.specs.Inputs.{Input, Opened, NoLink, Bytes, Turn, Gone, Look, Tick, Submit, Restart}
use Rattle.cx_laws_links.specs.cx_laws_tickets.specs.cx_rules.specs.Links.{Link, link_of}
use Rattle.cx_laws_links.specs.cx_laws_tickets.specs.cx_rules_session.specs.DaemonRule.{AsAcceptor, DaemonStage, DaemonState}
use Rattle.cx_laws_links.specs.cx_laws_tickets.specs.cx_run.specs.Happenings.{OfDaemon, entity_of}
use Rattle.cx_laws_links.specs.cx_laws_tickets.specs.cx_run.specs.Opening.{Setup, leaked_of}
use Rattle.cx_laws_links.specs.cx_laws_tickets.specs.cx_run.specs.Points.{Before, EachPoint, Point, entries_at, seals_at}
use Rattle.cx_laws_links.specs.cx_laws_tickets.specs.cx_run.specs.Wires.{same_node}
use Rattle.cx_laws_run.specs.run.Logins.{IsAskedFor, LogsIn, OwnFrame}

-- ---- an incoming link

-- an incoming link of this number is opened
abbrev pub is_incoming_opened : ℕ → Input → Bool
is_incoming_opened number (Opened n None) = n == number
is_incoming_opened number (Opened n (Some to)) = false
is_incoming_opened number (NoLink to) = false
is_incoming_opened number (Bytes n bytes) = false
is_incoming_opened number (Turn n) = false
is_incoming_opened number (Gone n) = false
is_incoming_opened number (Look view) = false
is_incoming_opened number Tick = false
is_incoming_opened number (Submit command) = false
is_incoming_opened number Restart = false

-- such a link is opened at this node
abbrev pub opens_incoming_at : NodeName → ℕ → Point → Bool
opens_incoming_at who number p = same_node p.happening.node who && is_incoming_opened number p.happening.input

-- at one of these points, and since then no incoming link of this number was opened at this node: an incoming link that lives there under this number is still
-- that one. (A link of its own that a daemon doesn't wait for is passed over, so that it opens none.)
abbrev pub IncomingSince : NodeName → ℕ → (List Point → Point → Type 0) → List Point → Type 0
IncomingSince who number P [] = ⊥
IncomingSince who number P (p ∷ older) = P older p ⊎ ((opens_incoming_at who number p ≡ false) × IncomingSince who number P older)

-- ---- the ticket's issue

-- the ticket was issued at one of these points, and asked for there: by a proof or on a link that a proof opened, by the entity's own node, where that isn't
-- leaked
abbrev pub WasAskedFor : Setup → Issued → List Point → Type 0
WasAskedFor setup ticket past = Before (λ older p. Contains (entries_at p) (entry.Issued ticket) × IsAskedFor setup older p ticket × LogsIn setup older p) past

-- ---- the authorizer

-- the second authorizer came on the daemon's link of this number, which had a challenge to be answered; and what the turn logs begins with what opened of it: a ticket
-- under the key of a generation that the view lists, with the entity, the global id and the caps of this one and good at the reading of the event, and, under that ticket's
-- own session key, the answer to that very challenge
pub record IsAnswered (session : Admitted) (ticket : Issued) (number : ℕ) (look : Looked) (p : Point) : Type 0 where
  pub state : DaemonState
  pub of : entity_of session.daemon p.nodes ≡ Some (OfDaemon state)
  pub link : Link DaemonStage
  pub found : link_of number state.node.links ≡ Some link
  pub awaited : Awaited
  pub stage : link.stage ≡ AsAcceptor (AwaitsProof awaited)
  pub said : ServiceTicket
  pub shown : IsShown look.view p.happening.reading awaited.challenge said (seals_at p)
  pub entity : said.name ≡ ticket.entity
  pub gid : said.gid ≡ ticket.gid
  pub caps : said.caps ≡ ticket.caps

-- the turn of the daemon's link of this number at which the second authorizer, with this ticket, was judged to answer the challenge of that link, at the reading
-- that the session has: by the view at which the daemon looked for that link, which lists the ticket's generation
pub record IsAuthorized (session : Admitted) (ticket : Issued) (number : ℕ) (p : Point) : Type 0 where
  pub daemon : p.happening.node ≡ node.Entity session.daemon
  pub turn : p.happening.input ≡ Turn number
  pub reading : p.happening.reading ≡ session.at
  pub look : Looked
  pub looked : Contains (entries_at p) (entry.Looked look)
  pub own : look.daemon ≡ session.daemon
  pub on : look.link ≡ number
  pub lists : has_generation look.view.generations ticket.generation ≡ true
  pub answered : IsAnswered session ticket number look p

-- ---- the session

-- at the point at which it is admitted or resumed, a turn of a link of the daemon: there is a ticket that backs it, for which it was authorized on that very
-- link, and which was issued before; and its entity's own node, where that isn't leaked, sealed what opened first of the frame that came
pub record IsOwed (setup : Setup) (older : List Point) (p : Point) (session : Admitted) : Type 0 where
  pub daemon : p.happening.node ≡ node.Entity session.daemon
  pub number : ℕ
  pub turn : p.happening.input ≡ Turn number
  pub ticket : Issued
  pub backs : Backs ticket session
  pub authorized : IncomingSince (node.Entity session.daemon) number (λ earlier at. IsAuthorized session ticket number at × WasAskedFor setup ticket earlier) older
  pub own : (Contains (leaked_of setup) session.entity → ⊥) → OwnFrame setup session.entity older p

-- each session that is admitted or resumed at this point
abbrev pub GoesBack : Setup → List Point → Point → Type 0
GoesBack setup older p =
    (session : Admitted) → Contains (entries_at p) (entry.Admitted session) ⊎ Contains (entries_at p) (entry.Resumed session) → IsOwed setup older p session

-- so it is of every run that is sound and fresh
abbrev pub GoBack : Setup → List Point → Type 0
GoBack setup past = EachPoint (GoesBack setup) past
