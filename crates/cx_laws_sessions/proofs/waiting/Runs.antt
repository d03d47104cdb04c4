-- Of every list of events: each event keeps what waits, and all of it is what was sent and not acknowledged.
use Rattle.std.proofs.Common.{◌≡◌, ℕ, Bool, true, false, List, [], ◌∷◌, ◌++◌, map, Option, Some, None, cond, find, refl, sym, ap, ◌∙◌, subst}
use Rattle.std.specs.List.{AllByRecursion}
use Rattle.std.specs.Prelude.{if◌then◌else◌}
use Rattle.cx_base.proofs.Names.{same_name_is}
use Rattle.cx_base.specs.Names.{Name, is_daemon_type, same_name}
use Rattle.cx_base.specs.declared.nodes.NodeName.{NodeName}
use Rattle.cx_base.specs.declared.nodes.NodeName.TheVariants as node
use Rattle.cx_base.specs.declared.operations.Operation.{Operation}
use Rattle.cx_desk.specs.Handlers.{Handlers}
use Rattle.cx_journal.specs.declared.entries.Entry.{Entry}
use Rattle.cx_laws_sessions.proofs.queues.Clients.{ClientQueues}
use Rattle.cx_laws_sessions.proofs.queues.Daemons.{Counts}
use Rattle.cx_laws_sessions.proofs.queues.Entries.{IsPlain, Untouched, all-unsent, none-sent, others-untouched}
use Rattle.cx_laws_sessions.proofs.queues.Runs.{AllQueues, EntityQueues, all-queued, entity-behind, entries_in, first-queues, monitor-plain, node-run}
use Rattle.cx_laws_sessions.proofs.queues.Sessions.{HeldIs, held-all}
use Rattle.cx_laws_sessions.specs.queues.Sending.{all_sent_to}
use Rattle.cx_laws_sessions.specs.queues.Waiting.{IsQueued, IsQueuedAt}
use Rattle.cx_laws_sessions.proofs.session.Clients.{IsMute}
use Rattle.cx_laws_sessions.proofs.session.Lists.{all-map, found-all, found-passes}
use Rattle.cx_laws_sessions.proofs.session.Monitors.{monitor-mute}
use Rattle.cx_laws_sessions.specs.cx_rules.specs.Monitor.{MonitorNode}
use Rattle.cx_laws_sessions.specs.cx_rules.specs.MonitorRule.{monitor_rule}
use Rattle.cx_laws_sessions.specs.cx_rules.specs.Rows.{Outcome}
use Rattle.cx_laws_sessions.specs.cx_rules_session.specs.DaemonRule.{DaemonState, daemon_step}
use Rattle.cx_laws_sessions.specs.cx_rules_session.specs.ClientRule.{WholeClientNode, opening_whole_client, whole_client_rule}
use Rattle.cx_laws_sessions.specs.cx_rules_session.specs.Sessions.{HeldSession, session_with}
use Rattle.cx_laws_sessions.specs.cx_run.specs.Happenings.{EntityNode, OfClient, OfDaemon, Happening, Nodes, Stepped, mon_client_in, entity_of, entity_rule, entity_steps, is_of, monitor_steps, nodes_behind, steps, steps_of}
use Rattle.cx_laws_sessions.specs.cx_run.specs.Opening.{Declared, Setup, mon_client_of, daemon_opening, entity_in, leaks_entered, nodes_of}
use Rattle.cx_laws_sessions.specs.cx_run.specs.Points.{EachPoint, Point, journal_since, points, points_onto}
use Rattle.cx_laws_sessions.specs.cx_run.specs.Runs.{run_journal, setup_of, trace}
use Rattle.cx_laws_sessions.specs.cx_run.specs.Wires.{same_node}
use Rattle.cx_laws_sessions.proofs.waiting.Again.{sends-again}
use Rattle.cx_laws_sessions.proofs.waiting.AtOnce.{sends-at-once}
use Rattle.cx_laws_sessions.proofs.waiting.Clients.{client-becomes}
use Rattle.cx_laws_sessions.proofs.waiting.Counting.{IsCounted, queued-left, step-counted}
use Rattle.cx_laws_sessions.proofs.waiting.Entities.{AllPlaced, EntityPlaced, all-linked, first-placed, links-linked, orders, step-placed}
use Rattle.cx_laws_sessions.proofs.waiting.Finding.{monitor-entity, other-entity, own-entity}
use Rattle.cx_laws_sessions.proofs.waiting.Hearing.{plain-unsent}
use Rattle.cx_laws_sessions.proofs.waiting.Going.{IsInOrder, same-becomes}
use Rattle.cx_laws_sessions.proofs.waiting.Unsent.{daemon-unsent}
use Rattle.cx_laws_sessions.specs.waiting.Again.{SendsAgain}
use Rattle.cx_laws_sessions.specs.waiting.AtOnce.{SendsAtOnce}
use Rattle.cx_laws_sessions.specs.waiting.Heard.{Word, Silent, heard_as, heard_at, session_at, session_in}
use Rattle.cx_laws_sessions.specs.waiting.Keeping.{Becomes, KeepsWaiting}
use Rattle.cx_laws_sessions.specs.waiting.Linked.{AreLinked}
use Rattle.cx_laws_sessions.specs.waiting.Left.{AreAllLeft, acknowledged_until}
use Rattle.cx_words.specs.declared.choices.LeftState.{LeftState}
use Rattle.cx_lines.specs.declared.lines.Numbered.{Numbered}
use Rattle.cx_rotate.specs.declared.states.KeptState.{KeptState}

-- ---- what is so before each event

-- of a client that is found by its name
found-order : (J : List Entry) (nodes : Nodes) → AllQueues J nodes.entities → (client daemon : Name) → HeldIs IsInOrder (session_at nodes client daemon)
found-order J nodes queues client daemon = by_found (entity_of client nodes) refl
  where
    by_found : (found : Option EntityNode) → entity_of client nodes ≡ found → HeldIs IsInOrder (session_in daemon found)
    by_found None is = tt
    by_found (Some (OfDaemon d)) is = tt
    by_found (Some (OfClient c)) is =
        held-all IsInOrder daemon c.own.sessions (orders J c.own.mon_client.name c.own.sessions (found-all (EntityQueues J) (is_of client) nodes.entities (OfClient c) queues is))

-- ---- one event

module _ (J : List Entry) (nodes : Nodes) (queues : AllQueues J nodes.entities) (placed : AllPlaced nodes.entities) (h : Happening) (client daemon : Name) where
  -- what becomes of the client's session, where this is heard
  abbrev StepBecomes : Word → Option HeldSession → Stepped → Type 0
  StepBecomes word was s = Becomes word (all_sent_to client daemon s.out.entries) was (session_at s.nodes client daemon)

  still : (s : Stepped) → all_sent_to client daemon s.out.entries ≡ [] → entity_of client s.nodes ≡ entity_of client nodes → StepBecomes Silent (session_at nodes client daemon) s
  still s unsent same =
      subst (λ (sent : List (ℕ × (ℕ × Operation))). Becomes Silent sent (session_at nodes client daemon) (session_at s.nodes client daemon)) (sym unsent)
      (subst (Becomes Silent [] (session_at nodes client daemon)) (sym (ap (session_in daemon) same)) (same-becomes (session_at nodes client daemon)))

  -- of the client itself
  own-step : (found : Option EntityNode) → entity_of client nodes ≡ found → StepBecomes (heard_as daemon h.input found) (session_in daemon found) (entity_steps nodes h client found)
  own-step None is = subst (Becomes Silent [] None) (sym (ap (session_in daemon) is)) refl
  own-step (Some (OfDaemon d)) is =
      let e : EntityNode = OfDaemon d in
      let o : Outcome DaemonState = daemon_step nodes.handlers d h.input h.reading h.draw in
      let counts : Counts J d.node.own.mon_client.name d.book = found-all (EntityQueues J) (is_of client) nodes.entities e queues is in
      subst (Becomes Silent (all_sent_to client daemon o.out.entries) None) (sym (ap (session_in daemon) (own-entity nodes h client e is)))
      (daemon-unsent nodes.handlers d J counts h.input h.reading h.draw client daemon)
  own-step (Some (OfClient c)) is =
      let e : EntityNode = OfClient c in
      let o : Outcome WholeClientNode = whole_client_rule c h.input h.reading h.draw in
      let q : ClientQueues J c.own.mon_client.name c.own.sessions = found-all (EntityQueues J) (is_of client) nodes.entities e queues is in
      let named : c.own.mon_client.name ≡ client = same_name_is c.own.mon_client.name client (found-passes (is_of client) nodes.entities e is) in
      subst (Becomes (heard_as daemon h.input (Some e)) (all_sent_to client daemon o.out.entries) (session_with daemon c.own.sessions)) (sym (ap (session_in daemon) (own-entity nodes h client e is)))
      (subst (λ (n : Name). Becomes (heard_as daemon h.input (Some e)) (all_sent_to n daemon o.out.entries) (session_with daemon c.own.sessions) (session_with daemon o.state.own.sessions)) named
      (client-becomes c q.apart (orders J c.own.mon_client.name c.own.sessions q) (links-linked c (found-all EntityPlaced (is_of client) nodes.entities e placed is)) daemon h.reading h.draw h.input))

  -- of another entity
  other-step : (other : Name) → same_name other client ≡ false → (found : Option EntityNode) → entity_of other nodes ≡ found
      → StepBecomes Silent (session_at nodes client daemon) (entity_steps nodes h other found)
  other-step other off None is = still (entity_steps nodes h other None) refl refl
  other-step other off (Some e) is =
      let named : (mon_client_in e).name ≡ other = same_name_is (mon_client_in e).name other (found-passes (is_of other) nodes.entities e is) in
      let o : Outcome EntityNode = entity_rule nodes.handlers e h.input h.reading h.draw in
      let left : AllByRecursion (Untouched client) o.out.entries =
      others-untouched (node.Entity (mon_client_in e).name) client (ap (λ (n : Name). same_name n client) named ∙ off) o.out.entries
      (entity-behind nodes h J e (found-all (EntityQueues J) (is_of other) nodes.entities e queues is)).own in
      still (entity_steps nodes h other (Some e)) (none-sent client daemon o.out.entries (all-unsent client daemon o.out.entries left)) (other-entity nodes h client other off (Some e) is)

  -- of the monitor
  monitor-step : let o = monitor_rule nodes.monitor h.input h.reading h.draw in StepBecomes Silent (session_at nodes client daemon) (monitor_steps nodes o h.left o.out.save)
  monitor-step =
      let o : Outcome MonitorNode = monitor_rule nodes.monitor h.input h.reading h.draw in
      by_save o h.left o.out.save (monitor-mute nodes h.input h.reading h.draw h.left)
    where
      unsent : (es : List Entry) → AllByRecursion (IsMute node.Monitor) es → all_sent_to client daemon es ≡ []
      unsent es mute = plain-unsent client daemon es (all-map (IsMute node.Monitor) IsPlain monitor-plain es mute)

      by_save : (o : Outcome MonitorNode) (l : Option LeftState) (saved : Option KeptState) → AllByRecursion (IsMute node.Monitor) (monitor_steps nodes o l saved).out.entries
          → StepBecomes Silent (session_at nodes client daemon) (monitor_steps nodes o l saved)
      by_save o l saved mute =
          still (monitor_steps nodes o l saved) (unsent (monitor_steps nodes o l saved).out.entries mute) (monitor-entity nodes client o l saved)

  by-node : (who : NodeName) → StepBecomes (if same_node who (node.Entity client) then heard_as daemon h.input (entity_of client nodes) else Silent) (session_at nodes client daemon) (steps_of nodes h who)
  by-node node.Monitor = monitor-step
  by-node (node.Entity other) = by_test (same_name other client) refl
    where
      by_test : (t : Bool) → same_name other client ≡ t
          → StepBecomes (if t then heard_as daemon h.input (entity_of client nodes) else Silent) (session_at nodes client daemon) (steps_of nodes h (node.Entity other))
      by_test true is =
          subst (λ (n : Name). StepBecomes (heard_as daemon h.input (entity_of client nodes)) (session_at nodes client daemon) (steps_of nodes h (node.Entity n)))
          (sym (same_name_is other client is)) (own-step (entity_of client nodes) refl)
      by_test false off = other-step other off (entity_of other nodes) refl

-- at a point
kept-at : (J : List Entry) (nodes : Nodes) (h : Happening) → AllQueues J nodes.entities → AllPlaced nodes.entities → (older : List Point) → KeepsWaiting older (record { nodes = nodes; happening = h })
kept-at J nodes h queues placed older = λ client daemon. by-node J nodes queues placed h client daemon h.node

-- ---- all events

-- so many operations were acknowledged in each session
abbrev AreCounted : Nodes → List Point → Type 0
AreCounted nodes past = (client daemon : Name) → IsCounted (acknowledged_until client daemon past) (session_at nodes client daemon)

record AllKept (nodes : Nodes) (past : List Point) (hs : List Happening) : Type 0 where
  kept : EachPoint KeepsWaiting (points_onto past nodes hs)
  counted : AreCounted (nodes_behind nodes hs) (points_onto past nodes hs)
  placed : AllPlaced (nodes_behind nodes hs).entities

kept-from : (hs : List Happening) (J : List Entry) (nodes : Nodes) (past : List Point) → AllQueues J nodes.entities → AllPlaced nodes.entities → EachPoint KeepsWaiting past → AreCounted nodes past
    → AllKept nodes past hs
kept-from [] J nodes past queues placed kept counted = record { kept = kept; counted = counted; placed = placed }
kept-from (h ∷ hs) J nodes past queues placed kept counted =
    let s : Stepped = steps nodes h in
    let p : Point = record { nodes = nodes; happening = h } in
    let at : KeepsWaiting past p = kept-at J nodes h queues placed past in
    let rest : AllKept s.nodes (p ∷ past) hs = kept-from hs (J ++ s.out.entries) s.nodes (p ∷ past) (node-run J nodes h h.node queues).queues (step-placed J nodes queues placed h) (at, kept)
    (λ client daemon. step-counted (heard_at p client daemon) (all_sent_to client daemon s.out.entries) (session_at nodes client daemon) (session_at s.nodes client daemon)
    (acknowledged_until client daemon past) (found-order J nodes queues client daemon) (at client daemon) (counted client daemon)) in
    record { kept = rest.kept; counted = rest.counted; placed = rest.placed }

-- no session lives at first
none-first : (e : Declared) (daemon : Name) → IsCounted 0 (session_in daemon (Some (entity_in e)))
none-first e daemon = by_kind (is_daemon_type e.name.kind)
  where
    by_kind : (t : Bool) → IsCounted 0 (session_in daemon (Some (if t then OfDaemon (daemon_opening (mon_client_of e)) else OfClient (opening_whole_client (mon_client_of e)))))
    by_kind true = tt
    by_kind false = tt

all-kept : (setup : Setup) (hs : List Happening) → AllKept (nodes_of setup) [] hs
all-kept setup hs = kept-from hs (entries_in (leaks_entered setup)) (nodes_of setup) [] (first-queues (entries_in (leaks_entered setup)) setup.entities) (first-placed setup.entities) tt first
  where
    among : (es : List Declared) (client daemon : Name) → IsCounted 0 (session_in daemon (find (is_of client) (map entity_in es)))
    among [] client daemon = tt
    among (e ∷ es) client daemon = by_test (is_of client (entity_in e)) (among es client daemon)
      where
        by_test : (t : Bool) → IsCounted 0 (session_in daemon (find (is_of client) (map entity_in es)))
            → IsCounted 0 (session_in daemon (cond t (Some (entity_in e)) (find (is_of client) (map entity_in es))))
        by_test true rest = none-first e daemon
        by_test false rest = rest

    first : (client daemon : Name) → IsCounted 0 (session_at (nodes_of setup) client daemon)
    first client daemon = among setup.entities client daemon

-- ---- the laws

pub all-waiting : (setup : Setup) (hs : List Happening) → EachPoint KeepsWaiting (points setup hs)
all-waiting setup hs = (all-kept setup hs).kept

pub links-of-sessions : (setup : Setup) (hs : List Happening) → AreLinked (nodes_behind (nodes_of setup) hs).entities
links-of-sessions setup hs = all-linked (nodes_behind (nodes_of setup) hs).entities (all-kept setup hs).placed

pub all-again : (setup : Setup) (hs : List Happening) → EachPoint SendsAgain (points setup hs)
all-again setup hs = each (points setup hs)
  where
    each : (past : List Point) → EachPoint SendsAgain past
    each [] = tt
    each (p ∷ older) = (λ client callee number keys t. sends-again p client callee number keys t, each older)

pub all-at-once : (setup : Setup) (hs : List Happening) → EachPoint SendsAtOnce (points setup hs)
all-at-once setup hs = each (points setup hs)
  where
    each : (past : List Point) → EachPoint SendsAtOnce past
    each [] = tt
    each (p ∷ older) = (λ client link s ask t. sends-at-once p client link s ask t, each older)

pub all-left : (setup : Setup) (hs : List Happening) → AreAllLeft (journal_since setup hs) (nodes_behind (nodes_of setup) hs) (points setup hs)
all-left setup hs client daemon session is =
    let nodes : Nodes = nodes_behind (nodes_of setup) hs in
    queued-left (journal_since setup hs) client session (acknowledged_until client daemon (points setup hs)) (by_found (entity_of client nodes) refl is)
    (subst (IsCounted (acknowledged_until client daemon (points setup hs))) is ((all-kept setup hs).counted client daemon))
  where
    by_found : (found : Option EntityNode) → entity_of client (nodes_behind (nodes_of setup) hs) ≡ found → session_in daemon found ≡ Some session → IsQueued (journal_since setup hs) client session
    by_found None of found = absurd cc
    by_found (Some (OfDaemon d)) of found = absurd cc
    by_found (Some (OfClient c)) of found =
        let nodes : Nodes = nodes_behind (nodes_of setup) hs in
        let named : c.own.mon_client.name ≡ client = same_name_is c.own.mon_client.name client (found-passes (is_of client) nodes.entities (OfClient c) of) in
        let queued : AllByRecursion (IsQueued (journal_since setup hs) c.own.mon_client.name) c.own.sessions =
        found-all (IsQueuedAt (journal_since setup hs)) (is_of client) nodes.entities (OfClient c) (all-queued setup hs) of in
        subst (λ (n : Name). IsQueued (journal_since setup hs) n session) named
        (found-all (IsQueued (journal_since setup hs) c.own.mon_client.name) (λ (s : HeldSession). same_name s.daemon daemon) c.own.sessions session queued found)

pub schedules-waiting : (handlers : Handlers) (script : List Numbered) → let setup = setup_of handlers script in let hs = trace handlers script in
    EachPoint KeepsWaiting (points setup hs) × EachPoint SendsAgain (points setup hs) × EachPoint SendsAtOnce (points setup hs) × AreAllLeft (run_journal handlers script) (nodes_behind (nodes_of setup) hs) (points setup hs)
schedules-waiting handlers script =
    let setup : Setup = setup_of handlers script in
    let hs : List Happening = trace handlers script in
    (all-waiting setup hs, all-again setup hs, all-at-once setup hs, all-left setup hs)
