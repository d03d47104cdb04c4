-- Behind each event each client has at most one link to each daemon, and each link is for its session.
use Rattle.std.proofs.Common.{◌≡◌, Bool, true, false, List, [], ◌∷◌, ◌++◌, length, map, Option, Some, None, refl, sym, subst, ℕ}
use Rattle.std.specs.List.{AllByRecursion}
use Rattle.std.specs.Prelude.{if◌then◌else◌}
use Rattle.cx_base.specs.Names.{Name, is_daemon_type}
use Rattle.cx_base.specs.declared.nodes.NodeName.{NodeName}
use Rattle.cx_base.specs.declared.nodes.NodeName.TheVariants as node
use Rattle.cx_journal.specs.declared.entries.Entry.{Entry}
use Rattle.cx_laws_sessions.proofs.queues.Clients.{ClientQueues}
use Rattle.cx_laws_sessions.proofs.queues.Runs.{AllQueues, EntityQueues}
use Rattle.cx_laws_sessions.specs.queues.Waiting.{IsQueued}
use Rattle.cx_laws_sessions.proofs.session.Lists.{all-map, found-all}
use Rattle.cx_laws_sessions.specs.cx_rules.specs.Links.{Link}
use Rattle.cx_laws_sessions.specs.cx_rules.specs.Monitor.{MonitorNode}
use Rattle.cx_laws_sessions.specs.cx_rules.specs.MonitorRule.{monitor_rule}
use Rattle.cx_laws_sessions.specs.cx_rules.specs.Rows.{Outcome}
use Rattle.cx_laws_sessions.specs.cx_rules_session.specs.ClientRule.{ClientStage, ToMonitor, ToDaemon, WholeClientNode, opening_whole_client}
use Rattle.cx_laws_sessions.specs.cx_rules_session.specs.Sessions.{HeldSession}
use Rattle.cx_laws_sessions.specs.cx_run.specs.Happenings.{EntityNode, OfClient, OfDaemon, Happening, Nodes, entity_of, entity_rule, entity_steps, is_of, monitor_steps, steps, steps_of}
use Rattle.cx_laws_sessions.specs.cx_run.specs.Opening.{Declared, mon_client_of, daemon_opening, entity_in}
use Rattle.cx_laws_sessions.proofs.waiting.Placing.{client-placed}
use Rattle.cx_laws_sessions.proofs.waiting.Places.{IsPlaced, LinkAt, Nowhere, Place, StageAt}
use Rattle.cx_laws_sessions.proofs.waiting.Going.{IsInOrder}
use Rattle.cx_laws_sessions.proofs.waiting.Trimming.{run-end}
use Rattle.cx_laws_sessions.specs.waiting.Linked.{AreLinked, IsLinked, IsLinkedBy}
use Rattle.cx_words.specs.declared.choices.LeftState.{LeftState}
use Rattle.cx_rotate.specs.declared.states.KeptState.{KeptState}
use Rattle.cx_session.specs.Queue.{IsRun}

-- ---- numbers of what waits

order-of : (J : List Entry) (client : Name) (s : HeldSession) → IsQueued J client s → IsInOrder s
order-of J client s q =
    subst (λ (n : ℕ). IsRun n s.queue.waiting) (sym q.last) (run-end (length (q.acknowledged ++ s.queue.waiting)) q.acknowledged s.queue.waiting q.numbered)

pub orders : (J : List Entry) (client : Name) (sessions : List HeldSession) → ClientQueues J client sessions → AllByRecursion IsInOrder sessions
orders J client sessions h = all-map (IsQueued J client) IsInOrder (order-of J client) sessions h.queued

-- ---- links

abbrev pub EntityPlaced : EntityNode → Type 0
EntityPlaced (OfClient c) = IsPlaced c
EntityPlaced (OfDaemon d) = Unit {0}

abbrev pub AllPlaced : List EntityNode → Type 0
AllPlaced entities = AllByRecursion EntityPlaced entities

stage-linked : (at : Name → Place) (sessions : List HeldSession) (number : ℕ) (stage : ClientStage) → StageAt at sessions number stage → IsLinkedBy sessions stage
stage-linked at sessions number (ToMonitor stage) h = tt
stage-linked at sessions number (ToDaemon stage) h = h.1

pub links-linked : (c : WholeClientNode) → IsPlaced c → AllByRecursion (λ (link : Link ClientStage). IsLinkedBy c.own.sessions link.stage) c.links
links-linked c (at, p) =
    all-map (LinkAt at c.own.sessions) (λ (link : Link ClientStage). IsLinkedBy c.own.sessions link.stage) (λ l h. stage-linked at c.own.sessions l.number l.stage h) c.links p.on

pub all-linked : (entities : List EntityNode) → AllPlaced entities → AreLinked entities
all-linked entities h = all-map EntityPlaced IsLinked one entities h
  where
    one : (e : EntityNode) → EntityPlaced e → IsLinked e
    one (OfClient c) h = links-linked c h
    one (OfDaemon d) h = tt

-- ---- an event

module _ (J : List Entry) (nodes : Nodes) (queues : AllQueues J nodes.entities) (placed : AllPlaced nodes.entities) (h : Happening) where
  entity-placed : (e : EntityNode) → EntityQueues J e → EntityPlaced e → EntityPlaced (entity_rule nodes.handlers e h.input h.reading h.draw).state
  entity-placed (OfDaemon d) q p = tt
  entity-placed (OfClient c) q (at, p) = client-placed c (orders J c.own.mon_client.name c.own.sessions q) at p h.reading h.draw h.input

  replaced-placed : (name : Name) (new : EntityNode) → EntityPlaced new → (entities : List EntityNode) → AllPlaced entities
      → AllPlaced (map (λ (e : EntityNode). if is_of name e then new else e) entities)
  replaced-placed name new is [] p = tt
  replaced-placed name new is (e ∷ entities) p = (by_test (is_of name e), replaced-placed name new is entities p.1)
    where
      by_test : (t : Bool) → EntityPlaced (if t then new else e)
      by_test true = is
      by_test false = p.0

  found-placed : (name : Name) (found : Option EntityNode) → entity_of name nodes ≡ found → AllPlaced (entity_steps nodes h name found).nodes.entities
  found-placed name None is = placed
  found-placed name (Some e) is =
      replaced-placed name (entity_rule nodes.handlers e h.input h.reading h.draw).state
      (entity-placed e (found-all (EntityQueues J) (is_of name) nodes.entities e queues is) (found-all EntityPlaced (is_of name) nodes.entities e placed is)) nodes.entities placed

  monitor-placed : (o : Outcome MonitorNode) (left : Option LeftState) (save : Option KeptState) → AllPlaced (monitor_steps nodes o left save).nodes.entities
  monitor-placed o (Some left) (Some saved) = placed
  monitor-placed o (Some left) None = placed
  monitor-placed o None save = placed

  node-placed : (who : NodeName) → AllPlaced (steps_of nodes h who).nodes.entities
  node-placed node.Monitor = let o : Outcome MonitorNode = monitor_rule nodes.monitor h.input h.reading h.draw in monitor-placed o h.left o.out.save
  node-placed (node.Entity name) = found-placed name (entity_of name nodes) refl

  pub step-placed : AllPlaced (steps nodes h).nodes.entities
  step-placed = node-placed h.node

-- no link lives at first
pub first-placed : (es : List Declared) → AllPlaced (map entity_in es)
first-placed [] = tt
first-placed (e ∷ es) = (by_kind (is_daemon_type e.name.kind), first-placed es)
  where
    by_kind : (t : Bool) → EntityPlaced (if t then OfDaemon (daemon_opening (mon_client_of e)) else OfClient (opening_whole_client (mon_client_of e)))
    by_kind true = tt
    by_kind false = ((λ daemon. Nowhere), record { on = tt; waits = tt })
