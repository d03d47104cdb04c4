-- What is known of each node of a run beside all that was said on links to daemons, between two events; and what a step of a node comes to.
use Rattle.std.proofs.Common.{◌≡◌, ℕ, ◌<◌, ◌^◌, List, [], ◌⊎◌}
use Rattle.std.specs.Prelude.{Contains}
use Rattle.std.specs.List.{AllByRecursion}
use Rattle.cx_base.specs.Names.{Name}
use Rattle.cx_base.specs.declared.nodes.NodeName.{NodeName}
use Rattle.cx_base.specs.declared.nodes.NodeName.TheVariants as node
use Rattle.cx_journal.specs.Behind.{EachBehind}
use Rattle.cx_journal.specs.declared.entries.Admitted.{Admitted}
use Rattle.cx_journal.specs.declared.entries.Entry.{Entry}
use Rattle.cx_journal.specs.declared.entries.Entry.TheVariants as journal
use Rattle.cx_laws_run.specs.cx_laws_keys.proofs.keys.Premises.{behind}
use Rattle.cx_laws_run.specs.cx_laws_keys.proofs.keys.Uses.{Connected, Means, Tie, Uses, WholeRun}
use Rattle.cx_laws_links.specs.cx_laws_keys.proofs.series.Contents.{contents_by}
use Rattle.cx_laws_sessions.specs.cx_rules.specs.Links.{Link}
use Rattle.cx_laws_sessions.specs.cx_rules.specs.Rows.{Outcome}
use Rattle.cx_laws_sessions.specs.cx_rules_session.specs.ClientRule.{ClientStage, ToDaemon, ToMonitor, WholeClientNode}
use Rattle.cx_laws_sessions.specs.cx_rules_session.specs.DaemonRule.{DaemonState}
use Rattle.cx_laws_sessions.specs.cx_rules_session.specs.Presenter as call
use Rattle.cx_laws_sessions.specs.cx_rules_session.specs.Presenter.{CallStage}
use Rattle.cx_laws_sessions.specs.cx_rules_session.specs.Sessions.{HeldSession}
use Rattle.cx_laws_sessions.specs.cx_run.specs.Happenings.{EntityNode, OfClient, OfDaemon}
use Rattle.cx_steps.specs.declared.seals.Logged.{Logged}
use Rattle.cx_laws_links.proofs.links.IncomingNodes.{LinksKnown}
use Rattle.cx_laws_links.proofs.links.IncomingTakes.{IsServedIn, WasSentAs}
use Rattle.cx_laws_links.proofs.links.IncomingWords.{AreSpelled}
use Rattle.cx_laws_links.proofs.links.Known.{AreTold, ClientTold, Told}
use Rattle.cx_laws_links.proofs.links.Moving.{Moved}
use Rattle.cx_laws_links.proofs.links.Single.{IsSingle}
use Rattle.cx_laws_links.proofs.links.Spoken.{is_connectors}
use Rattle.cx_laws_links.proofs.links.Written.{IsLinkKey}
use Rattle.cx_laws_links.proofs.answers.Given.{is_acceptors}
use Rattle.cx_laws_run.proofs.sent.Shown.{ClientShows, OrderFits}

-- ---- a client

-- the cookie of a session has a spelling, and so has all that waits in it
pub record SessionFits (session : HeldSession) : Type 0 where
  pub cookie : session.client_cookie < 2 ^ 64
  pub last : session.queue.last < 2 ^ 64
  pub waiting : AllByRecursion OrderFits session.queue.waiting

-- and the cookie of a session that a link asks for, takes up, or has open
abbrev pub CallFits : CallStage → Type 0
CallFits (call.AwaitsIdent s callee cookie) = cookie < 2 ^ 64
CallFits (call.AwaitsReconnect s callee cookie) = cookie < 2 ^ 64
CallFits (call.Open s callee cookie) = cookie < 2 ^ 64
CallFits stage = Unit {0}

abbrev pub StageFits : ClientStage → Type 0
StageFits (ToMonitor stage) = Unit {0}
StageFits (ToDaemon stage) = CallFits stage

-- what its links said and showed; of each daemon it has one link or waits for one; and what it has to say can be spelled
pub record ClientKnown (us : Uses) (told : Told) (log : List Logged) (c : WholeClientNode) : Type 0 where
  pub links : ClientTold us told log c
  pub single : IsSingle c.links c.own.dials
  pub sessions : AllByRecursion SessionFits c.own.sessions
  pub stages : AllByRecursion (λ (link : Link ClientStage). StageFits link.stage) c.links

-- behind a step of a client, of this name, that comes to this: what is said then, by one link of its own at most; and nothing is given as by an acceptor
pub record ClientBehind (run : WholeRun) (us vs : Uses) (told : Told) (log : List Logged) (line : ℕ) (K : List Entry) (name : Name) (c : WholeClientNode) (o : Outcome WholeClientNode) : Type 0 where
  pub next : Told
  pub number : ℕ
  pub moved : Moved us vs told log o.out.seals name number next
  pub known_of : AreTold run vs next (behind (node.Entity name) line o.out.seals log) K
  pub spelled : AreSpelled next
  pub client : ClientKnown vs next (behind (node.Entity name) line o.out.seals log) o.state
  pub gives_none : (key : List ℕ) (whose : Name) (tie : ℕ) → IsLinkKey vs key whose tie → contents_by key is_acceptors o.out.seals ≡ []
  pub shows : ClientShows us told log K name c number o next

-- ---- a daemon

-- a step seals nothing that the connector of a link to a daemon could have said
abbrev pub SaysNothing : Uses → Outcome DaemonState → Type 0
SaysNothing vs o = (key : List ℕ) (name : Name) (tie : ℕ) → IsLinkKey vs key name tie → contents_by key is_connectors o.out.seals ≡ []

-- a session that is admitted for an entity that didn't leak is the first one under its cookie, of all such entities; and an operation is handled in a session of an entity, which
-- sent it under the cookie of that session, where it didn't leak
abbrev pub HeardLaw : WholeRun → List Entry → Entry → Type 0
HeardLaw run earlier (journal.Admitted a) =
    (Contains run.leaked a.entity → ⊥) → (b : Admitted) → Contains earlier (journal.Admitted b) → (Contains run.leaked b.entity → ⊥) → b.cookie ≡ a.cookie → ⊥
HeardLaw run earlier (journal.Handled h) = (name : Name) × IsServedIn earlier name h × ((Contains run.leaked name → ⊥) → WasSentAs earlier name h)
HeardLaw run earlier _ = Unit {0}

-- the key is that of a link of this acceptor
pub record IsLinkAt (us : Uses) (key : List ℕ) (acceptor : NodeName) : Type 0 where
  pub number : ℕ
  pub whose : Name
  pub tie : Tie
  pub means : Means us key (Connected acceptor number whose tie)

-- behind a step of a daemon that comes to this: sessions that were joined to keys, each to that of a link of its own
pub record DaemonBehind (run : WholeRun) (vs : Uses) (told : Told) (log : List Logged) (line : ℕ) (J K : List Entry) (name : Name) (o : Outcome DaemonState) : Type 0 where
  pub joins : List (List ℕ × ℕ)
  pub own : (key : List ℕ) (cookie : ℕ) → Contains joins (key, cookie) → Contains told.joins (key, cookie) ⊎ IsLinkAt vs key (node.Entity name)
  pub known_of : AreTold run vs (record told { joins = joins }) (behind (node.Entity name) line o.out.seals log) K
  pub links : LinksKnown run vs (record told { joins = joins }) K name (node.Entity name) o.state.node.links
  pub quiet : SaysNothing vs o
  pub heard : EachBehind (HeardLaw run) J o.out.entries

-- ---- any entity

abbrev pub EntityKnown : WholeRun → Uses → Told → List Logged → List Entry → EntityNode → Type 0
EntityKnown run us told log J (OfClient c) = ClientKnown us told log c
EntityKnown run us told log J (OfDaemon d) = LinksKnown run us told J d.node.own.mon_client.name (node.Entity d.node.own.mon_client.name) d.node.links

abbrev pub EntitiesKnown : WholeRun → Uses → Told → List Logged → List Entry → List EntityNode → Type 0
EntitiesKnown run us told log J entities = AllByRecursion (EntityKnown run us told log J) entities
