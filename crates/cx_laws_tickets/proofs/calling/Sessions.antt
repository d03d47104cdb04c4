-- What is known of the session keys that a client has: each is that of a ticket of its own. And of the stages of its links, of the links that it
-- waits for, and of its sessions.
use Rattle.std.proofs.Common.{◌≡◌, ◌⊎◌, ℕ, false, true, List, [], ◌∷◌, Option, Some, None, Bool, inl, inr, refl, sym, ◌∙◌}
use Rattle.std.specs.Prelude.{◌==◌, if◌then◌else◌}
use Rattle.std.specs.List.{AllByRecursion}
use Rattle.cx_base.specs.Names.{Name}
use Rattle.cx_base.specs.declared.kinds.EntityType.{EntityType}
use Rattle.cx_base.specs.declared.kinds.EntityType.TheVariants.{Mon, Mds, Osd, Client, Mgr, Auth}
use Rattle.cx_base.specs.declared.nodes.NodeName.{NodeName}
use Rattle.cx_base.specs.declared.nodes.NodeName.TheVariants as node
use Rattle.cx_laws_keys.specs.cx_login.specs.Held.{Held}
use Rattle.cx_laws_keys.specs.cx_login.specs.declared.client.LoggedIn.{LoggedIn}
use Rattle.cx_laws_keys.specs.cx_rules.specs.Connector as connector
use Rattle.cx_laws_keys.specs.cx_rules.specs.Holdings.{Holdings, held_login, holds_nothing, of_gid, put_ticket, put_tickets}
use Rattle.cx_run.specs.cx_rules_session.specs.ClientRule.{ClientStage, ToMonitor, ToDaemon, Dial, ForLogin, ForCall}
use Rattle.cx_run.specs.cx_rules_session.specs.Presenter as call
use Rattle.cx_run.specs.cx_rules_session.specs.Presenter.{CallStage}
use Rattle.cx_run.specs.cx_rules_session.specs.Sessions.{Callee, ticket_for}
use Rattle.cx_laws_keys.proofs.keys.Lists.{all-map}
use Rattle.cx_laws_keys.proofs.keys.Uses.{AtDaemon, Connected, Grows, Login, Means, Ticketed, Uses, WholeRun}
use Rattle.cx_laws_keys.proofs.login.Facts.{MonClientStageOk, HasConnection, mon_client_stage-grows, connection-grows}

-- links to daemons are asked for in this run
abbrev pub IncomingLinksCome : WholeRun → Type 0
IncomingLinksCome run = run.incoming_links ≡ false → ⊥

-- a node is of one entity
pub same-entity : (n : NodeName) (a b : Name) → n ≡ node.Entity a → n ≡ node.Entity b → a ≡ b
same-entity n a b here there = let e : node.Entity a ≡ node.Entity b = sym here ∙ there in cc

-- ---- session keys

-- the session key of a ticket of this node's own entity: of the one for AUTH, or of one for another service
pub record IsSession (us : Uses) (n : NodeName) (key : List ℕ) : Type 0 where
  pub name : Name
  pub own : n ≡ node.Entity name
  pub means : Means us key (Login name) ⊎ ((service : EntityType) × Means us key (Ticketed name service))

pub session-grows : (us vs : Uses) (n : NodeName) (key : List ℕ) → Grows us vs → IsSession us n key → IsSession vs n key
session-grows us vs n key f h = record { name = h.name; own = h.own; means = by_use h.means }
  where
    by_use : Means us key (Login h.name) ⊎ ((service : EntityType) × Means us key (Ticketed h.name service))
        → Means vs key (Login h.name) ⊎ ((service : EntityType) × Means vs key (Ticketed h.name service))
    by_use (inl m) = inl (f.means key (Login h.name) m)
    by_use (inr (service, m)) = inr (service, f.means key (Ticketed h.name service) m)

-- that of the one for AUTH
pub record IsLoginKey (us : Uses) (n : NodeName) (key : List ℕ) : Type 0 where
  pub name : Name
  pub own : n ≡ node.Entity name
  pub means : Means us key (Login name)

pub login_key-grows : (us vs : Uses) (n : NodeName) (key : List ℕ) → Grows us vs → IsLoginKey us n key → IsLoginKey vs n key
login_key-grows us vs n key f h = record { name = h.name; own = h.own; means = f.means key (Login h.name) h.means }

pub login-session : (us : Uses) (n : NodeName) (key : List ℕ) → IsLoginKey us n key → IsSession us n key
login-session us n key h = record { name = h.name; own = h.own; means = inl h.means }

-- ---- tickets that are held

abbrev pub AreSessions : Uses → NodeName → List Held → Type 0
AreSessions us n tickets = AllByRecursion (λ (held : Held). IsSession us n held.session) tickets

pub sessions-grow : (us vs : Uses) (n : NodeName) (tickets : List Held) → Grows us vs → AreSessions us n tickets → AreSessions vs n tickets
sessions-grow us vs n tickets f h =
    all-map (λ (held : Held). IsSession us n held.session) (λ (held : Held). IsSession vs n held.session) (λ held s. session-grows us vs n held.session f s) tickets h

-- the session key of a ticket of its own, which is named for this service
abbrev pub HeldOk : Uses → NodeName → EntityType → Option Held → Type 0
HeldOk us n service (Some held) = IsSession us n held.session × (held.service ≡ service)
HeldOk us n service None = Unit {0}

held-grows : (us vs : Uses) (n : NodeName) (service : EntityType) (held : Option Held) → Grows us vs → HeldOk us n service held → HeldOk vs n service held
held-grows us vs n service (Some held) f h = (session-grows us vs n held.session f h.0, h.1)
held-grows us vs n service None f h = tt

-- each ticket has a session key of its own entity's, and stands in the place of the service for which it is named
pub record HoldingsOk (us : Uses) (n : NodeName) (holdings : Holdings) : Type 0 where
  pub auth : HeldOk us n Auth holdings.auth
  pub mds : HeldOk us n Mds holdings.mds
  pub osd : HeldOk us n Osd holdings.osd
  pub mgr : HeldOk us n Mgr holdings.mgr

pub holdings-grow : (us vs : Uses) (n : NodeName) (holdings : Holdings) → Grows us vs → HoldingsOk us n holdings → HoldingsOk vs n holdings
holdings-grow us vs n holdings f h = record {
  auth = held-grows us vs n Auth holdings.auth f h.auth;
  mds = held-grows us vs n Mds holdings.mds f h.mds;
  osd = held-grows us vs n Osd holdings.osd f h.osd;
  mgr = held-grows us vs n Mgr holdings.mgr f h.mgr;
}

module _ (us : Uses) (n : NodeName) where
  pub nothing-ok : HoldingsOk us n holds_nothing
  nothing-ok = record { auth = tt; mds = tt; osd = tt; mgr = tt }

  ticket-ok : (h : Holdings) (ticket : Held) (service : EntityType) → HoldingsOk us n h → IsSession us n ticket.session → ticket.service ≡ service → HoldingsOk us n (put_ticket h ticket service)
  ticket-ok h ticket Auth ok is named = record { auth = (is, named); mds = ok.mds; osd = ok.osd; mgr = ok.mgr }
  ticket-ok h ticket Mds ok is named = record { auth = ok.auth; mds = (is, named); osd = ok.osd; mgr = ok.mgr }
  ticket-ok h ticket Osd ok is named = record { auth = ok.auth; mds = ok.mds; osd = (is, named); mgr = ok.mgr }
  ticket-ok h ticket Mgr ok is named = record { auth = ok.auth; mds = ok.mds; osd = ok.osd; mgr = (is, named) }
  ticket-ok h ticket Mon ok is named = ok
  ticket-ok h ticket Client ok is named = ok

  pub tickets-ok : (h : Holdings) (tickets : List Held) → HoldingsOk us n h → AreSessions us n tickets → HoldingsOk us n (put_tickets h tickets)
  tickets-ok h [] ok are = ok
  tickets-ok h (ticket ∷ tickets) ok are = tickets-ok (put_ticket h ticket ticket.service) tickets (ticket-ok h ticket ticket.service ok are.0 refl) are.1

  gid-ok : (h : Holdings) (gid : ℕ) (before : Option ℕ) → HoldingsOk us n h → HoldingsOk us n (of_gid h gid before)
  gid-ok h gid None ok = record { auth = ok.auth; mds = ok.mds; osd = ok.osd; mgr = ok.mgr }
  gid-ok h gid (Some before) ok = by_test (before == gid)
    where
      by_test : (same : Bool) → HoldingsOk us n (if same then h else record holds_nothing { gid = Some gid })
      by_test true = ok
      by_test false = record { auth = tt; mds = tt; osd = tt; mgr = tt }

  pub login-ok : (h : Holdings) (gid : ℕ) (login : LoggedIn) → HoldingsOk us n h → IsLoginKey us n login.auth.session → AreSessions us n login.tickets
      → HoldingsOk us n (held_login h gid login)
  login-ok h gid login ok auth are = tickets-ok (of_gid h gid h.gid) (login.auth ∷ login.tickets) (gid-ok h gid h.gid ok) (login-session us n login.auth.session auth, are)

  -- the ticket for a service
  pub found-ticket : (h : Holdings) (service : EntityType) → HoldingsOk us n h → HeldOk us n service (ticket_for service h)
  found-ticket h Auth ok = ok.auth
  found-ticket h Mds ok = ok.mds
  found-ticket h Osd ok = ok.osd
  found-ticket h Mgr ok = ok.mgr
  found-ticket h Mon ok = tt
  found-ticket h Client ok = tt

-- ---- links to the monitor

-- what a stage has of a login that was opened
abbrev pub SessionsIn : Uses → NodeName → connector.Stage → Type 0
SessionsIn us n (connector.AwaitsSignature s login) = IsLoginKey us n login.opened.auth.session × AreSessions us n login.opened.tickets
SessionsIn us n (connector.AwaitsIdent s session) = IsLoginKey us n session
SessionsIn us n (connector.Open s requests) = IsLoginKey us n requests.session
SessionsIn us n _ = Unit {0}

pub stage_sessions-grow : (us vs : Uses) (n : NodeName) (stage : connector.Stage) → Grows us vs → SessionsIn us n stage → SessionsIn vs n stage
stage_sessions-grow us vs n (connector.AwaitsBanner asked) f h = tt
stage_sessions-grow us vs n (connector.AwaitsHello asked) f h = tt
stage_sessions-grow us vs n (connector.AwaitsChallenge asked) f h = tt
stage_sessions-grow us vs n connector.AwaitsDone f h = tt
stage_sessions-grow us vs n (connector.AwaitsSignature s login) f h = (login_key-grows us vs n login.opened.auth.session f h.0, sessions-grow us vs n login.opened.tickets f h.1)
stage_sessions-grow us vs n (connector.AwaitsIdent s session) f h = login_key-grows us vs n session f h
stage_sessions-grow us vs n (connector.Open s requests) f h = login_key-grows us vs n requests.session f h

-- ---- links to daemons

-- a ticket that is shown to a daemon has a session key of its own entity's, and is named for the daemon's type
abbrev pub IsShownFor : Uses → NodeName → Callee → Held → Type 0
IsShownFor us n callee held = IsSession us n held.session × (held.service ≡ callee.daemon.kind)

pub shown_for-grows : (us vs : Uses) (n : NodeName) (callee : Callee) (held : Held) → Grows us vs → IsShownFor us n callee held → IsShownFor vs n callee held
shown_for-grows us vs n callee held f h = (session-grows us vs n held.session f h.0, h.1)

-- a reply under the session key of a ticket for a service gave this key: it is that of a link of a daemon of that type
pub record IsRepliedFor (us : Uses) (n : NodeName) (session key : List ℕ) : Type 0 where
  pub name : Name
  pub own : n ≡ node.Entity name
  pub service : EntityType
  pub ticketed : Means us session (Ticketed name service)
  pub acceptor : NodeName
  pub number : ℕ
  pub tie : ℕ
  pub means : Means us key (Connected acceptor number name (AtDaemon service tie))

pub replied-connection : (us : Uses) (n : NodeName) (session key : List ℕ) → IsRepliedFor us n session key → HasConnection us n key
replied-connection us n session key h =
    record { name = h.name; own = h.own; connected = record { acceptor = h.acceptor; number = h.number; tie = AtDaemon h.service h.tie; means = h.means } }

replied-grows : (us vs : Uses) (n : NodeName) (session key : List ℕ) → Grows us vs → IsRepliedFor us n session key → IsRepliedFor vs n session key
replied-grows us vs n session key f h = record {
  name = h.name;
  own = h.own;
  service = h.service;
  ticketed = f.means session (Ticketed h.name h.service) h.ticketed;
  acceptor = h.acceptor;
  number = h.number;
  tie = h.tie;
  means = f.means key (Connected h.acceptor h.number h.name (AtDaemon h.service h.tie)) h.means;
}

-- the session key of the ticket that is shown; and behind the daemon's reply a key of a connection of this node, at first with the session key that gave it
abbrev pub CallKeys : Uses → NodeName → CallStage → Type 0
CallKeys us n (call.AwaitsBanner called) = IsShownFor us n called.callee called.held
CallKeys us n (call.AwaitsHello called) = IsShownFor us n called.callee called.held
CallKeys us n (call.AwaitsChallenge callee p) = IsShownFor us n callee p.held
CallKeys us n (call.AwaitsDone callee answered) = IsSession us n answered.session
CallKeys us n (call.AwaitsSignature s callee) = IsRepliedFor us n s.session s.keys.key
CallKeys us n (call.AwaitsIdent s callee cookie) = HasConnection us n s.keys.key
CallKeys us n (call.AwaitsReconnect s callee cookie) = HasConnection us n s.keys.key
CallKeys us n (call.Open s callee cookie) = HasConnection us n s.keys.key

pub call_keys-grow : (us vs : Uses) (n : NodeName) (stage : CallStage) → Grows us vs → CallKeys us n stage → CallKeys vs n stage
call_keys-grow us vs n (call.AwaitsBanner called) f h = shown_for-grows us vs n called.callee called.held f h
call_keys-grow us vs n (call.AwaitsHello called) f h = shown_for-grows us vs n called.callee called.held f h
call_keys-grow us vs n (call.AwaitsChallenge callee p) f h = shown_for-grows us vs n callee p.held f h
call_keys-grow us vs n (call.AwaitsDone callee answered) f h = session-grows us vs n answered.session f h
call_keys-grow us vs n (call.AwaitsSignature s callee) f h = replied-grows us vs n s.session s.keys.key f h
call_keys-grow us vs n (call.AwaitsIdent s callee cookie) f h = connection-grows us vs n s.keys.key f h
call_keys-grow us vs n (call.AwaitsReconnect s callee cookie) f h = connection-grows us vs n s.keys.key f h
call_keys-grow us vs n (call.Open s callee cookie) f h = connection-grows us vs n s.keys.key f h

-- ---- links of a client, and those that it waits for

abbrev pub ClientStageOk : WholeRun → Uses → NodeName → ClientStage → Type 0
ClientStageOk run us n (ToMonitor stage) = MonClientStageOk us n stage × SessionsIn us n stage
ClientStageOk run us n (ToDaemon stage) = CallKeys us n stage × IncomingLinksCome run

pub client_stage-grows : (run : WholeRun) (us vs : Uses) (n : NodeName) (stage : ClientStage) → Grows us vs → ClientStageOk run us n stage → ClientStageOk run vs n stage
client_stage-grows run us vs n (ToMonitor stage) f h = (mon_client_stage-grows us vs n stage f h.0, stage_sessions-grow us vs n stage f h.1)
client_stage-grows run us vs n (ToDaemon stage) f h = (call_keys-grow us vs n stage f h.0, h.1)

abbrev pub DialOk : WholeRun → Uses → NodeName → Dial → Type 0
DialOk run us n (ForLogin services) = Unit {0}
DialOk run us n (ForCall called) = IsShownFor us n called.callee called.held × IncomingLinksCome run

pub dial-grows : (run : WholeRun) (us vs : Uses) (n : NodeName) (dial : Dial) → Grows us vs → DialOk run us n dial → DialOk run vs n dial
dial-grows run us vs n (ForLogin services) f h = tt
dial-grows run us vs n (ForCall called) f h = (shown_for-grows us vs n called.callee called.held f h.0, h.1)
