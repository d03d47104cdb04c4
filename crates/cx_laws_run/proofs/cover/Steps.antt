-- What is known before an event of a node, and of keys behind it; and what a step of each node is to come to.
use Rattle.std.proofs.Common.{◌≡◌, ◌<◌, ℕ, false, List, [], ◌∷◌, length, Some}
use Rattle.std.specs.Prelude.{Contains}
use Rattle.std.specs.List.{AllByRecursion}
use Rattle.cx_base.specs.Names.{Name}
use Rattle.cx_base.specs.declared.nodes.NodeName.{NodeName}
use Rattle.cx_base.specs.declared.nodes.NodeName.TheVariants as node
use Rattle.cx_journal.specs.declared.entries.Entry.{Entry}
use Rattle.cx_journal.specs.declared.entries.Entry.TheVariants as journal
use Rattle.cx_journal.specs.declared.entries.Fetched.{Fetched}
use Rattle.cx_laws_run.specs.cx_laws_tickets.proofs.authorize.Backing.{AllGood}
use Rattle.cx_laws_run.specs.cx_laws_keys.proofs.keys.Journal.{entered}
use Rattle.cx_laws_run.specs.cx_laws_keys.proofs.keys.Known.{Inv}
use Rattle.cx_laws_run.specs.cx_laws_keys.proofs.keys.Premises.{AreGranted, behind}
use Rattle.cx_laws_run.specs.cx_laws_keys.proofs.keys.Uses.{AtMonitor, Connected, Grows, Means, Uses, WholeRun}
use Rattle.cx_laws_run.proofs.run.Events.{NodesOk}
use Rattle.cx_laws_run.specs.cx_laws_keys.proofs.series.Contents.{contents_by}
use Rattle.cx_laws_run.specs.cx_rules.specs.Links.{Link}
use Rattle.cx_laws_run.specs.cx_rules.specs.Monitor.{MonitorNode, MonitorStage}
use Rattle.cx_laws_run.specs.cx_rules.specs.MonitorRule.{monitor_rule}
use Rattle.cx_laws_run.specs.cx_rules.specs.Rows.{Outcome}
use Rattle.cx_laws_run.specs.cx_rules_session.specs.ClientRule.{WholeClientNode, whole_client_rule}
use Rattle.cx_laws_run.specs.cx_rules_session.specs.DaemonRule.{DaemonState, daemon_step}
use Rattle.cx_laws_run.specs.cx_run.specs.Happenings.{EntityNode, OfClient, OfDaemon, Stepped, entity_of, entity_steps, monitor_steps}
use Rattle.cx_laws_run.specs.cx_run.specs.Points.{Before, EachPoint, Point, stepped_at}
use Rattle.cx_laws_run.specs.cx_run.specs.Visits.{IsNoLook, IsUnvisited}
use Rattle.cx_steps.specs.declared.seals.Logged.{Logged}
use Rattle.cx_steps.specs.declared.seals.SealEntry.{SealEntry}
use Rattle.cx_laws_run.specs.cx_laws_tickets.proofs.fetch.AllTold.{AllTold}
use Rattle.cx_laws_run.specs.cx_laws_tickets.proofs.fetch.AskedKnown.{AreTold, IsLoginKey, Told}
use Rattle.cx_laws_run.specs.cx_laws_tickets.proofs.fetch.AskedMoving.{IsNotAsked, IsNotGiven, Moved}
use Rattle.cx_laws_run.specs.cx_laws_tickets.proofs.fetch.Handed.{AreHanded}
use Rattle.cx_laws_run.specs.cx_laws_tickets.proofs.fetch.HeardFrames.{AllHeard}
use Rattle.cx_laws_run.specs.cx_laws_tickets.proofs.fetch.Later.{of_acceptor, of_connector}
use Rattle.cx_laws_run.specs.cx_laws_tickets.proofs.fetch.OwnDraws.{DrawsNew}
use Rattle.cx_laws_run.specs.cx_laws_tickets.proofs.fetch.PointEvents.{events_of}
use Rattle.cx_laws_run.specs.cx_laws_tickets.proofs.fetch.RepliedMoments.{WasReplied}
use Rattle.cx_laws_run.specs.cx_laws_tickets.proofs.fetch.Retied.{Handed, StayHanded, retied}
use Rattle.cx_laws_run.specs.cx_laws_tickets.proofs.fetch.Words.{IsIn}
use Rattle.cx_laws_run.proofs.cover.ReadAsTold.{AreReadAsTold}
use Rattle.cx_laws_run.proofs.cover.State.{EntityHas, MonitorLinksHave, RunHas}

-- ---- before a step

-- draws are bytes
abbrev pub DrawsBytes : List Point → Point → Type 0
DrawsBytes older p = AllByRecursion (λ (b : ℕ). b < 256) p.happening.draw

-- of the event at this point, behind these, which is one of this node and comes to this
pub record Ready (run : WholeRun) (whole : List Logged) (us vs : Uses) (logins : List Handed) (told : Told) (past : List Point) (p : Point) (n : NodeName) (log : List Logged) (J : List Entry)
    (s : Stepped) : Type 0 where
  pub here : p.happening.node ≡ n
  pub stepped : stepped_at p ≡ s
  -- what is known of keys
  pub inv : Inv run whole us log J
  pub grows : Grows us vs
  pub inv_behind : Inv run whole vs (behind n p.happening.line s.out.seals log) (entered J s.out.entries)
  pub ok : NodesOk run p.nodes us J
  pub ok_behind : NodesOk run s.nodes vs (entered J s.out.entries)
  pub good : AllGood run J
  -- what is known of links to the monitor
  pub has : RunHas run past us logins told log p.nodes
  -- what each such link tells, and what the monitor's links heard
  pub tells : AllTold past p.nodes.entities
  pub tells_behind : AllTold (p ∷ past) s.nodes.entities
  pub heard : AllHeard p.nodes.monitor.links
  pub heard_behind : AllHeard s.nodes.monitor.links
  -- a reply to a daemon is read as what it tells
  pub reads : AreReadAsTold past p
  -- draws, and what comes
  pub fresh : EachPoint DrawsNew (p ∷ past)
  pub bytes : EachPoint DrawsBytes (p ∷ past)
  pub drawn : length p.happening.draw ≡ 384
  pub looks : IsNoLook p.happening.input
  pub comes : run.incoming_links ≡ false → IsUnvisited n p.happening.input
  pub granted : AreGranted run.leaked whole n p.happening.line log s.out.seals

-- ---- behind a step of an entity

-- of the entity of this name, which goes on as this one: what it said on one link of its own at most; no link of another entity's is touched, and none of
-- the monitor's; and each fetch that it enters is what the monitor replied behind its asking
pub record EntityBehind (run : WholeRun) (us vs : Uses) (logins : List Handed) (told : Told) (past : List Point) (p : Point) (name : Name) (log : List Logged) (s : Stepped) (entity : EntityNode)
    : Type 0 where
  pub next : Told
  pub moved : Moved told next
  pub apart : (m : Name) → (m ≡ name → ⊥) → (link challenge : ℕ) → (events_of past).drew m link challenge → (key : List ℕ) → IsLoginKey (retied logins vs) key m challenge
      → IsNotAsked moved key × (contents_by key of_connector s.out.seals ≡ [])
  pub quiet : (key : List ℕ) (number : ℕ) (m : Name) (challenge : ℕ) → Means (retied logins us) key (Connected node.Monitor number m (AtMonitor challenge))
      → IsNotGiven moved key × (contents_by key of_acceptor s.out.seals ≡ [])
  pub known_of : AreTold run (events_of (p ∷ past)) (retied logins vs) next (behind (node.Entity name) p.happening.line s.out.seals log)
  pub handed : AreHanded (retied logins vs) logins (behind (node.Entity name) p.happening.line s.out.seals log)
  pub entity_has : EntityHas (events_of (p ∷ past)) (retied logins vs) logins next (behind (node.Entity name) p.happening.line s.out.seals log) entity
  pub fetched : (f : Fetched) → Contains s.out.entries (journal.Fetched f) → Before (WasReplied f) past

-- each step of a client comes to that
abbrev pub ClientStep : WholeRun → List Logged → Type 0
ClientStep run whole = (us vs : Uses) (logins : List Handed) (told : Told) (past : List Point) (p : Point) (name : Name) (log : List Logged) (J : List Entry) (c : WholeClientNode)
    → entity_of name p.nodes ≡ Some (OfClient c)
    → Ready run whole us vs logins told past p (node.Entity name) log J (entity_steps p.nodes p.happening name (Some (OfClient c)))
    → EntityBehind run us vs logins told past p name log (entity_steps p.nodes p.happening name (Some (OfClient c)))
    (OfClient (whole_client_rule c p.happening.input p.happening.reading p.happening.draw).state)

-- so does each step of a daemon
abbrev pub DaemonStep : WholeRun → List Logged → Type 0
DaemonStep run whole = (us vs : Uses) (logins : List Handed) (told : Told) (past : List Point) (p : Point) (name : Name) (log : List Logged) (J : List Entry) (d : DaemonState)
    → entity_of name p.nodes ≡ Some (OfDaemon d)
    → Ready run whole us vs logins told past p (node.Entity name) log J (entity_steps p.nodes p.happening name (Some (OfDaemon d)))
    → EntityBehind run us vs logins told past p name log (entity_steps p.nodes p.happening name (Some (OfDaemon d)))
    (OfDaemon (daemon_step p.nodes.handlers d p.happening.input p.happening.reading p.happening.draw).state)

-- ---- behind a step of the monitor

-- where it logs these, and has these links then: what it handed over, one login at most; and it says nothing on links of those that log in
pub record MonitorBehind (run : WholeRun) (us vs : Uses) (logins : List Handed) (told : Told) (past : List Point) (p : Point) (log : List Logged) (es : List SealEntry)
    (links : List (Link MonitorStage)) : Type 0 where
  pub more : List Handed
  pub stay : StayHanded us logins more
  pub within : (h : Handed) → IsIn h logins → IsIn h more
  pub next : Told
  pub moved : Moved told next
  pub apart : (m : Name) (link challenge : ℕ) → (events_of past).drew m link challenge → (key : List ℕ) → IsLoginKey (retied more vs) key m challenge
      → IsNotAsked moved key × (contents_by key of_connector es ≡ [])
  pub known_of : AreTold run (events_of (p ∷ past)) (retied more vs) next (behind node.Monitor p.happening.line es log)
  pub handed : AreHanded (retied more vs) more (behind node.Monitor p.happening.line es log)
  pub monitor_has : MonitorLinksHave run (retied more vs) next (behind node.Monitor p.happening.line es log) links

-- each step of the monitor comes to that
abbrev pub MonitorStep : WholeRun → List Logged → Type 0
MonitorStep run whole = (us vs : Uses) (logins : List Handed) (told : Told) (past : List Point) (p : Point) (log : List Logged) (J : List Entry) →
    let o : Outcome MonitorNode = monitor_rule p.nodes.monitor p.happening.input p.happening.reading p.happening.draw in
    let s : Stepped = monitor_steps p.nodes o p.happening.left o.out.save in
    Ready run whole us vs logins told past p node.Monitor log J s → MonitorBehind run us vs logins told past p log s.out.seals s.nodes.monitor.links
