-- What is known before a step of an entity, and of keys behind it; and what each such step is to come to.
use Rattle.std.proofs.Common.{◌≡◌, ℕ, false, List, length}
use Rattle.cx_base.specs.Names.{Name}
use Rattle.cx_base.specs.declared.nodes.NodeName.TheVariants as node
use Rattle.cx_desk.specs.Handlers.{Handlers}
use Rattle.cx_journal.specs.declared.entries.Entry.{Entry}
use Rattle.cx_laws_run.specs.cx_laws_tickets.proofs.authorize.Backing.{AllGood}
use Rattle.cx_laws_run.specs.cx_laws_tickets.proofs.calling.Between.{ClientOk}
use Rattle.cx_laws_run.specs.cx_laws_keys.proofs.keys.Journal.{entered}
use Rattle.cx_laws_run.specs.cx_laws_keys.proofs.keys.Known.{Inv}
use Rattle.cx_laws_run.specs.cx_laws_keys.proofs.keys.Premises.{AreGranted, behind}
use Rattle.cx_laws_run.specs.cx_laws_keys.proofs.keys.Uses.{Grows, Uses, WholeRun}
use Rattle.cx_laws_links.proofs.links.IncomingNodes.{LinksKnown}
use Rattle.cx_laws_links.proofs.links.IncomingWords.{AreSpelled}
use Rattle.cx_laws_links.proofs.links.Known.{AreTold, Told}
use Rattle.cx_laws_sessions.proofs.queues.Clients.{ClientQueues}
use Rattle.cx_laws_sessions.proofs.queues.Daemons.{Counts}
use Rattle.cx_laws_run.proofs.run.Events.{DaemonOk}
use Rattle.cx_laws_run.specs.run.Laws.{AreBytes}
use Rattle.cx_laws_sessions.specs.cx_rules.specs.Inputs.{Input}
use Rattle.cx_laws_sessions.specs.cx_rules.specs.Rows.{Outcome}
use Rattle.cx_laws_sessions.specs.cx_rules_session.specs.ClientRule.{WholeClientNode, whole_client_rule}
use Rattle.cx_laws_sessions.specs.cx_rules_session.specs.DaemonRule.{DaemonState, daemon_step}
use Rattle.cx_laws_sessions.specs.cx_run.specs.Visits.{IsNoLook, IsUnvisited}
use Rattle.cx_steps.specs.declared.seals.Logged.{Logged}
use Rattle.cx_laws_run.proofs.sent.State.{ClientBehind, ClientKnown, DaemonBehind}
use Rattle.cx_laws_run.specs.sent.Fitting.{IsFit}

-- ---- a client

-- of a client of this name, and its step that comes to this
pub record ClientReady (run : WholeRun) (whole : List Logged) (us vs : Uses) (told : Told) (log : List Logged) (line : ℕ) (J : List Entry) (name : Name) (c : WholeClientNode) (input : Input) (draw : List ℕ)
    (o : Outcome WholeClientNode) : Type 0 where
  pub named : c.own.mon_client.name ≡ name
  pub inv : Inv run whole us log J
  pub grows : Grows us vs
  pub inv_behind : Inv run whole vs (behind (node.Entity name) line o.out.seals log) (entered J o.out.entries)
  pub known_of : AreTold run us told log J
  pub spelled : AreSpelled told
  pub client : ClientKnown us told log c
  pub ok : ClientOk run us c
  pub ok_behind : ClientOk run vs o.state
  pub queues : ClientQueues J c.own.mon_client.name c.own.sessions
  pub drawn : length draw ≡ 384
  pub bytes : AreBytes draw
  pub fits : IsFit input
  pub looks : IsNoLook input
  pub comes : run.incoming_links ≡ false → IsUnvisited (node.Entity name) input
  pub granted : AreGranted run.leaked whole (node.Entity name) line log o.out.seals

-- each step of a client keeps what is known
abbrev pub ClientStep : WholeRun → List Logged → Type 0
ClientStep run whole = (us vs : Uses) (told : Told) (log : List Logged) (line : ℕ) (J : List Entry) (name : Name) (c : WholeClientNode) (input : Input) (reading : ℕ) (draw : List ℕ)
    → ClientReady run whole us vs told log line J name c input draw (whole_client_rule c input reading draw)
    → ClientBehind run us vs told log line (entered J (whole_client_rule c input reading draw).out.entries) name c (whole_client_rule c input reading draw)

-- ---- a daemon

-- of a daemon of this name, and its step that comes to this
pub record DaemonReady (run : WholeRun) (whole : List Logged) (us vs : Uses) (told : Told) (log : List Logged) (line : ℕ) (J : List Entry) (name : Name) (d : DaemonState) (input : Input) (draw : List ℕ)
    (o : Outcome DaemonState) : Type 0 where
  pub named : d.node.own.mon_client.name ≡ name
  pub inv : Inv run whole us log J
  pub grows : Grows us vs
  pub inv_behind : Inv run whole vs (behind (node.Entity name) line o.out.seals log) (entered J o.out.entries)
  pub known_of : AreTold run us told log J
  pub spelled : AreSpelled told
  pub links : LinksKnown run us told J name (node.Entity name) d.node.links
  pub ok : DaemonOk run us J d.node
  pub ok_behind : DaemonOk run vs (entered J o.out.entries) o.state.node
  pub good : AllGood run J
  pub counts : Counts J d.node.own.mon_client.name d.book
  pub drawn : length draw ≡ 384
  pub bytes : AreBytes draw
  pub looks : IsNoLook input
  pub comes : run.incoming_links ≡ false → IsUnvisited (node.Entity name) input
  pub granted : AreGranted run.leaked whole (node.Entity name) line log o.out.seals

-- so does each step of a daemon
abbrev pub DaemonStep : WholeRun → List Logged → Type 0
DaemonStep run whole = (us vs : Uses) (told : Told) (log : List Logged) (line : ℕ) (J : List Entry) (name : Name) (handlers : Handlers) (d : DaemonState) (input : Input) (reading : ℕ) (draw : List ℕ)
    → DaemonReady run whole us vs told log line J name d input draw (daemon_step handlers d input reading draw)
    → DaemonBehind run vs told log line J (entered J (daemon_step handlers d input reading draw).out.entries) name (daemon_step handlers d input reading draw)
