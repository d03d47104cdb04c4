-- What links to the monitor tell, before each event of any list of events: of the frames that were sent on them the third has a challenge that the node
-- drew on that link, and each request for generations that waits was made at an event of the node.
use Rattle.std.proofs.Common.{◌≡◌, ◌==◌, ◌∙◌, ℕ, Bool, true, false, List, [], ◌∷◌, map, Option, Some, None, inl, inr, refl, sym, ap, subst}
use Rattle.std.specs.Prelude.{if◌then◌else◌}
use Rattle.std.specs.List.{AllByRecursion}
use Rattle.cx_base.proofs.Names.{same_name_is}
use Rattle.cx_base.specs.Names.{Name, is_daemon_type}
use Rattle.cx_base.specs.declared.nodes.NodeName.{NodeName}
use Rattle.cx_base.specs.declared.nodes.NodeName.TheVariants as node
use Rattle.cx_dice.specs.Draws.{challenge_of}
use Rattle.cx_frame.specs.Frames.{frame_text}
use Rattle.cx_frame.specs.declared.frame.Frame.{Frame}
use Rattle.cx_words.specs.declared.choices.LeftState.{LeftState}
use Rattle.cx_rotate.specs.declared.states.KeptState.{KeptState}
use Rattle.cx_laws_tickets.specs.cx_rules_session.specs.ClientRule.{WholeClientNode, opening_whole_client, whole_client_rule}
use Rattle.cx_laws_tickets.specs.cx_rules_session.specs.DaemonRule.{AsConnector, DaemonStage, DaemonState, daemon_step}
use Rattle.cx_laws_tickets.specs.cx_rules_session.specs.cx_rules.specs.Connector as connector
use Rattle.cx_laws_tickets.specs.cx_rules_session.specs.cx_rules.specs.Judged.{LogsDraw}
use Rattle.cx_laws_tickets.specs.cx_rules_session.specs.cx_rules.specs.Links.{Link, link_of}
use Rattle.cx_laws_tickets.specs.cx_rules_session.specs.cx_rules.specs.Monitor.{MonitorNode}
use Rattle.cx_laws_tickets.specs.cx_rules_session.specs.cx_rules.specs.MonitorRule.{monitor_rule}
use Rattle.cx_laws_tickets.specs.cx_rules_session.specs.cx_rules.specs.Requests.{Requests}
use Rattle.cx_laws_tickets.specs.cx_rules_session.specs.cx_rules.specs.Rows.{Outcome, piece}
use Rattle.cx_laws_tickets.specs.cx_rules_session.specs.cx_rules.specs.Secured.{Secured}
use Rattle.cx_laws_tickets.specs.cx_rules_session.specs.cx_rules.specs.cx_steps.specs.declared.effects.Effects.{Effects}
use Rattle.cx_laws_tickets.specs.cx_rules_session.specs.cx_rules.specs.cx_steps.specs.declared.seals.DrawMark.TheVariants as draw
use Rattle.cx_laws_tickets.specs.cx_run.proofs.ClientKept.{whole-named}
use Rattle.cx_laws_tickets.specs.cx_run.proofs.DaemonNamed.{daemon-named}
use Rattle.cx_laws_tickets.specs.cx_run.proofs.PointsTell.{each-map}
use Rattle.cx_laws_tickets.specs.cx_run.specs.Happenings.{EntityNode, OfClient, OfDaemon, Happening, Nodes, Stepped, mon_client_in, entity_of, entity_rule, entity_steps, is_of, monitor_steps, steps, steps_of}
use Rattle.cx_laws_tickets.specs.cx_run.specs.Opening.{Declared, Setup, mon_client_of, daemon_opening, entity_in, nodes_of}
use Rattle.cx_laws_tickets.specs.cx_run.specs.Points.{Before, EachPoint, Point, points, points_onto, seals_at, stepped_at}
use Rattle.cx_laws_tickets.specs.cx_laws_keys.proofs.keys.Lists.{all-map, found_all, found_passes}
use Rattle.cx_laws_tickets.proofs.fetch.MonClientFacts.{AreAskedAt, AskedBehind, DrewBehind, StageTold}
use Rattle.cx_laws_tickets.proofs.fetch.ClientTells.{ClientLinkTold, client-map, client-tells}
use Rattle.cx_laws_tickets.proofs.fetch.DaemonTells.{DaemonLinkTold, DaemonStageTold, daemon-map, daemon-tells}
use Rattle.cx_laws_tickets.specs.fetch.Fetches.{IsAsking}

-- ---- what went before

-- at this event the node of this entity drew the challenge, and sent this frame on its link of this number
pub record IsChallenging (name : Name) (number challenge : ℕ) (f : Frame) (p : Point) : Type 0 where
  pub node_is : p.happening.node ≡ node.Entity name
  pub drawn : challenge ≡ challenge_of p.happening.draw
  pub drew : LogsDraw (draw.Challenge challenge) (seals_at p)
  pub sent : (stepped_at p).out.sends ≡ piece number (frame_text f)

-- so it was at one of these points
abbrev pub WasDrawn : List Point → Name → ℕ → ℕ → Frame → Type 0
WasDrawn past name number challenge f = Before (λ _ at. IsChallenging name number challenge f at) past

-- at one of them the node of this entity had an event at this reading
abbrev pub WasAsked : List Point → Name → ℕ → Type 0
WasAsked past name reading = Before (λ _ at. IsAsking name reading at) past

-- so much is told by each link to the monitor of an entity
abbrev pub EntityTold : List Point → EntityNode → Type 0
EntityTold past (OfClient c) = AllByRecursion (ClientLinkTold (WasDrawn past c.own.mon_client.name) (WasAsked past c.own.mon_client.name)) c.links
EntityTold past (OfDaemon d) = AllByRecursion (DaemonLinkTold (WasDrawn past d.node.own.mon_client.name) (WasAsked past d.node.own.mon_client.name)) d.node.links

abbrev pub AllTold : List Point → List EntityNode → Type 0
AllTold past entities = AllByRecursion (EntityTold past) entities

-- ---- an event

module _ (past : List Point) (p : Point) where
  -- what was told before is so behind any event
  stays-told : (e : EntityNode) → EntityTold past e → EntityTold (p ∷ past) e
  stays-told (OfClient c) h =
      let name : Name = c.own.mon_client.name in
      all-map (ClientLinkTold (WasDrawn past name) (WasAsked past name)) (ClientLinkTold (WasDrawn (p ∷ past) name) (WasAsked (p ∷ past) name))
      (client-map (WasDrawn past name) (WasDrawn (p ∷ past) name) (WasAsked past name) (WasAsked (p ∷ past) name) (λ number challenge f d. inr d) (λ reading d. inr d)) c.links h
  stays-told (OfDaemon d) h =
      let name : Name = d.node.own.mon_client.name in
      all-map (DaemonLinkTold (WasDrawn past name) (WasAsked past name)) (DaemonLinkTold (WasDrawn (p ∷ past) name) (WasAsked (p ∷ past) name))
      (daemon-map (WasDrawn past name) (WasDrawn (p ∷ past) name) (WasAsked past name) (WasAsked (p ∷ past) name) (λ number challenge f e. inr e) (λ reading e. inr e)) d.node.links h

  all-stay : (entities : List EntityNode) → AllTold past entities → AllTold (p ∷ past) entities
  all-stay entities h = all-map (EntityTold past) (EntityTold (p ∷ past)) stays-told entities h

  -- what this event of the entity's node drew and asked
  module _ (name : Name) (here : p.happening.node ≡ node.Entity name) (out : Effects) (is : (stepped_at p).out ≡ out) where
    drawn-now : (number challenge : ℕ) (f : Frame) → DrewBehind (WasDrawn past name) p.happening.draw out number challenge f → WasDrawn (p ∷ past) name number challenge f
    drawn-now number challenge f (inl before) = inr before
    drawn-now number challenge f (inr (drawn, logs, sends)) = inl (record {
      node_is = here;
      drawn = drawn;
      drew = subst (λ (e : Effects). LogsDraw (draw.Challenge challenge) e.seals) (sym is) logs;
      sent = ap (λ (e : Effects). e.sends) is ∙ sends;
    })

    asked-now : (reading : ℕ) → AskedBehind (WasAsked past name) p.happening.reading reading → WasAsked (p ∷ past) name reading
    asked-now reading (inl before) = inr before
    asked-now reading (inr same) = inl (record { daemon_is = here; reading = sym same })

-- the entity whose event it is
module _ (past : List Point) (nodes : Nodes) (h : Happening) where
  abbrev point : Point
  point = record { nodes = nodes; happening = h }

  own-told : (name : Name) → h.node ≡ node.Entity name → (e : EntityNode) → (mon_client_in e).name ≡ name → (steps nodes h).out ≡ (entity_rule nodes.handlers e h.input h.reading h.draw).out
      → EntityTold past e → EntityTold (point ∷ past) (entity_rule nodes.handlers e h.input h.reading h.draw).state
  own-told name here (OfClient c) named is told =
      let o : Outcome WholeClientNode = whole_client_rule c h.input h.reading h.draw in
      let own : Name = c.own.mon_client.name in
      let at_own : h.node ≡ node.Entity own = here ∙ ap (λ (n : Name). node.Entity n) (sym named) in
      let behind : AllByRecursion (ClientLinkTold (DrewBehind (WasDrawn past own) h.draw o.out) (AskedBehind (WasAsked past own) h.reading)) o.state.links =
      client-tells (WasDrawn past own) (WasAsked past own) c h.reading h.draw told h.input in
      subst (λ (n : Name). AllByRecursion (ClientLinkTold (WasDrawn (point ∷ past) n) (WasAsked (point ∷ past) n)) o.state.links) (sym (whole-named c h.input h.reading h.draw))
      (all-map (ClientLinkTold (DrewBehind (WasDrawn past own) h.draw o.out) (AskedBehind (WasAsked past own) h.reading)) (ClientLinkTold (WasDrawn (point ∷ past) own) (WasAsked (point ∷ past) own))
      (client-map (DrewBehind (WasDrawn past own) h.draw o.out) (WasDrawn (point ∷ past) own) (AskedBehind (WasAsked past own) h.reading) (WasAsked (point ∷ past) own)
      (drawn-now past point own at_own o.out is) (asked-now past point own at_own o.out is)) o.state.links behind)
  own-told name here (OfDaemon d) named is told =
      let o : Outcome DaemonState = daemon_step nodes.handlers d h.input h.reading h.draw in
      let own : Name = d.node.own.mon_client.name in
      let at_own : h.node ≡ node.Entity own = here ∙ ap (λ (n : Name). node.Entity n) (sym named) in
      let behind : AllByRecursion (DaemonLinkTold (DrewBehind (WasDrawn past own) h.draw o.out) (AskedBehind (WasAsked past own) h.reading)) o.state.node.links =
      daemon-tells (WasDrawn past own) (WasAsked past own) nodes.handlers d h.input h.reading h.draw told in
      subst (λ (n : Name). AllByRecursion (DaemonLinkTold (WasDrawn (point ∷ past) n) (WasAsked (point ∷ past) n)) o.state.node.links) (sym (daemon-named nodes.handlers d h.input h.reading h.draw))
      (all-map (DaemonLinkTold (DrewBehind (WasDrawn past own) h.draw o.out) (AskedBehind (WasAsked past own) h.reading)) (DaemonLinkTold (WasDrawn (point ∷ past) own) (WasAsked (point ∷ past) own))
      (daemon-map (DrewBehind (WasDrawn past own) h.draw o.out) (WasDrawn (point ∷ past) own) (AskedBehind (WasAsked past own) h.reading) (WasAsked (point ∷ past) own)
      (drawn-now past point own at_own o.out is) (asked-now past point own at_own o.out is)) o.state.node.links behind)

  -- it stands in the place of the one before
  replaced-told : (name : Name) (new : EntityNode) → EntityTold (point ∷ past) new → (entities : List EntityNode) → AllTold past entities
      → AllTold (point ∷ past) (map (λ (e : EntityNode). if is_of name e then new else e) entities)
  replaced-told name new here [] h = tt
  replaced-told name new here (e ∷ entities) h = (by_test (is_of name e), replaced-told name new here entities h.1)
    where
      by_test : (t : Bool) → EntityTold (point ∷ past) (if t then new else e)
      by_test true = here
      by_test false = stays-told past point e h.0

  entity-told : (name : Name) → h.node ≡ node.Entity name → (found : Option EntityNode) → entity_of name nodes ≡ found → AllTold past nodes.entities
      → AllTold (point ∷ past) (entity_steps nodes h name found).nodes.entities
  entity-told name here None is told = all-stay past point nodes.entities told
  entity-told name here (Some e) is told =
      let stepped : steps nodes h ≡ entity_steps nodes h name (Some e) =
      ap (λ (n : NodeName). steps_of nodes h n) here ∙ ap (λ (f : Option EntityNode). entity_steps nodes h name f) is in
      let named : (mon_client_in e).name ≡ name = same_name_is (mon_client_in e).name name (found_passes (is_of name) nodes.entities e is) in
      let before : EntityTold past e = found_all (EntityTold past) (is_of name) nodes.entities e told is in
      replaced-told name (entity_rule nodes.handlers e h.input h.reading h.draw).state
      (own-told name here e named (ap (λ (s : Stepped). s.out) stepped) before) nodes.entities told

  -- the monitor's events change no entity
  same-entities : (o : Outcome MonitorNode) (l : Option LeftState) (saved : Option KeptState) → (monitor_steps nodes o l saved).nodes.entities ≡ nodes.entities
  same-entities o (Some left) (Some saved) = refl
  same-entities o None saved = refl
  same-entities o (Some left) None = refl

  pub node-told : (n : NodeName) → h.node ≡ n → AllTold past nodes.entities → AllTold (point ∷ past) (steps_of nodes h n).nodes.entities
  node-told node.Monitor here told =
      let o : Outcome MonitorNode = monitor_rule nodes.monitor h.input h.reading h.draw in
      subst (λ (entities : List EntityNode). AllTold (point ∷ past) entities) (sym (same-entities o h.left o.out.save)) (all-stay past point nodes.entities told)
  node-told (node.Entity name) here told = entity-told name here (entity_of name nodes) refl told

-- ---- every list of events

-- so it is before each event
abbrev pub IsTold : List Point → Point → Type 0
IsTold older p = AllTold older p.nodes.entities

told-onto : (hs : List Happening) (past : List Point) (nodes : Nodes) → AllTold past nodes.entities → EachPoint IsTold past → EachPoint IsTold (points_onto past nodes hs)
told-onto [] past nodes told each = each
told-onto (h ∷ hs) past nodes told each =
    told-onto hs (record { nodes = nodes; happening = h } ∷ past) (steps nodes h).nodes (node-told past nodes h h.node refl told) (told, each)

-- no link lives at first
pub first-told : (es : List Declared) → AllTold [] (map entity_in es)
first-told [] = tt
first-told (e ∷ es) = (by_kind (is_daemon_type e.name.kind), first-told es)
  where
    by_kind : (daemon : Bool) → EntityTold [] (if daemon then OfDaemon (daemon_opening (mon_client_of e)) else OfClient (opening_whole_client (mon_client_of e)))
    by_kind true = tt
    by_kind false = tt

-- whatever was forged
pub all-told : (setup : Setup) (hs : List Happening) → EachPoint IsTold (points setup hs)
all-told setup hs = told-onto hs [] (nodes_of setup) (first-told setup.entities) tt

-- ---- requests for generations

-- each that waits on an open link of a daemon to the monitor was made at an event of that daemon, at the reading that it has
abbrev pub AreAsked : List Point → Point → Type 0
AreAsked older p = (name : Name) (d : DaemonState) → entity_of name p.nodes ≡ Some (OfDaemon d) → (number : ℕ) (link : Link DaemonStage) → link_of number d.node.links ≡ Some link
    → (s : Secured) (r : Requests) → link.stage ≡ AsConnector (connector.Open s r) → AreAskedAt (WasAsked older name) r.waiting

told-asked : (older : List Point) (p : Point) → IsTold older p → AreAsked older p
told-asked older p told name d found number link at s r is =
    let own : Name = d.node.own.mon_client.name in
    let named : own ≡ name = same_name_is own name (found_passes (is_of name) p.nodes.entities (OfDaemon d) found) in
    let links : AllByRecursion (DaemonLinkTold (WasDrawn older own) (WasAsked older own)) d.node.links = found_all (EntityTold older) (is_of name) p.nodes.entities (OfDaemon d) told found in
    let here : DaemonLinkTold (WasDrawn older own) (WasAsked older own) link =
    found_all (DaemonLinkTold (WasDrawn older own) (WasAsked older own)) (λ (l : Link DaemonStage). l.number == number) d.node.links link links at in
    let open_is : StageTold (WasDrawn older own link.number) (WasAsked older own) link.received link.taken link.sent (connector.Open s r) =
    subst (λ (stage : DaemonStage). DaemonStageTold (WasDrawn older own) (WasAsked older own) link.number link.received link.taken link.sent stage) is here in
    subst (λ (n : Name). AreAskedAt (WasAsked older n) r.waiting) named open_is.1

pub all-asked : (setup : Setup) (hs : List Happening) → EachPoint AreAsked (points setup hs)
all-asked setup hs = each-map IsTold AreAsked told-asked (points setup hs) (all-told setup hs)
