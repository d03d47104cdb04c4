-- The secret of each daemon is the one that the monitor has of it, at each event of any list of events: no event changes either.
use Rattle.std.proofs.Common.{◌≡◌, ℕ, Bool, true, false, cond, List, [], ◌∷◌, map, Option, Some, None, inl, inr, ◌⊎◌, refl, sym, ap, ◌∙◌, subst}
use Rattle.std.specs.Option.{option_map}
use Rattle.std.specs.Prelude.{find, if◌then◌else◌}
use Rattle.cx_base.proofs.Names.{same_name_is, same_name_self}
use Rattle.cx_base.specs.Names.{Name, is_daemon_type, same_name}
use Rattle.cx_base.specs.declared.nodes.NodeName.{NodeName}
use Rattle.cx_base.specs.declared.nodes.NodeName.TheVariants as node
use Rattle.cx_desk.specs.Handlers.{Handlers}
use Rattle.cx_enc.specs.declared.keys.Key.{Key}
use Rattle.cx_journal.specs.declared.entries.Entry.{Entry}
use Rattle.cx_keyring.specs.Entries.{is_named}
use Rattle.cx_keyring.specs.declared.entries.Entry.{Entry as Principal}
use Rattle.cx_laws_run.proofs.cover.OwnRows.{NoFetch, TurnOwn, request-own, turn-own}
use Rattle.cx_laws_run.specs.cx_keyserver.specs.Servers.{rotated_server}
use Rattle.cx_laws_run.specs.cx_laws_tickets.proofs.chain.Steps.{ComesOn, event-goes_on}
use Rattle.cx_laws_run.specs.cx_laws_tickets.specs.chain.Chain.{ring_in}
use Rattle.cx_laws_run.specs.cx_laws_keys.proofs.keys.Lists.{found_passes}
use Rattle.cx_laws_run.specs.cx_rules.specs.Connector as connector
use Rattle.cx_laws_run.specs.cx_rules.specs.Holdings.{MonClient}
use Rattle.cx_laws_run.specs.cx_rules.specs.Inputs.{Input}
use Rattle.cx_laws_run.specs.cx_rules.specs.Links.{Link}
use Rattle.cx_laws_run.specs.cx_rules.specs.Monitor.{Monitor, MonitorNode}
use Rattle.cx_laws_run.specs.cx_rules.specs.MonitorRule.{monitor_rule}
use Rattle.cx_laws_run.specs.cx_rules.specs.Requests.{sealed_request}
use Rattle.cx_laws_run.specs.cx_rules.specs.Rows.{Arrival, Outcome, Turned, Waits, Refuses, Handles, arrival, turns}
use Rattle.cx_laws_run.specs.cx_rules.specs.Verdicts.{key_of}
use Rattle.cx_laws_run.specs.cx_rules.specs.declared.requests.Want.TheVariants as want
use Rattle.cx_laws_run.specs.cx_rules_session.specs.ClientRule.{opening_whole_client}
use Rattle.cx_laws_run.specs.cx_rules_session.specs.DaemonRule.{AsConnector, Daemon, DaemonNode, DaemonStage, DaemonState, book_after, book_reply, daemon_rule, daemon_step, hosts, me, open_to_ask, turned_at, with_mon_client}
use Rattle.cx_laws_run.specs.cx_rules_session.specs.Hosting.{Hosted}
use Rattle.cx_laws_run.specs.cx_rules_session.specs.Kinds.{arrival_in, turn_of_kind}
use Rattle.cx_laws_run.specs.cx_run.proofs.Always.{always-book, always-weaker}
use Rattle.cx_laws_run.specs.cx_run.proofs.DaemonOutcomes.{ByRows, RestsAndTurns, incoming_rule, hosted-by-rows, rests-keep}
use Rattle.cx_laws_run.specs.cx_run.proofs.EntityNamed.{entity-named}
use Rattle.cx_laws_run.specs.cx_run.proofs.IncomingTakes.{StaysIncoming, TakesHosted, incoming-takes}
use Rattle.cx_laws_run.specs.cx_run.proofs.Taking.{EachRow}
use Rattle.cx_laws_run.specs.cx_run.specs.Happenings.{EntityNode, Happening, Nodes, OfClient, OfDaemon, Stepped, mon_client_in, entity_of, entity_rule, entity_steps, is_of, monitor_steps, steps, steps_of}
use Rattle.cx_laws_run.specs.cx_run.specs.Opening.{Declared, Setup, mon_client_of, daemon_opening, entity_in, nodes_of, principal_of, secret_of}
use Rattle.cx_laws_run.specs.cx_run.specs.Points.{EachPoint, Point, points, points_onto}
use Rattle.cx_laws_run.specs.cx_wire.specs.declared.bodies.Request.TheVariants as asked
use Rattle.cx_words.specs.declared.choices.LeftState.{LeftState}
use Rattle.cx_rotate.specs.declared.states.KeptState.{KeptState}

-- ---- a daemon

module _ (d : DaemonNode) (reading : ℕ) (draw : List ℕ) where
  abbrev Kept : Outcome DaemonNode → Type 0
  Kept o = o.state.own.mon_client.secret ≡ d.own.mon_client.secret

  abbrev at_link : Link DaemonStage → Arrival Daemon DaemonStage
  at_link link = arrival (me d.own) d.own link reading draw

  own-kept : (link : Link DaemonStage) (stage : connector.Stage)
      → Kept (turns d (at_link link) (turn_of_kind (with_mon_client d.own) AsConnector (connector.turned_at (arrival_in (at_link link) d.own.mon_client stage) stage)))
  own-kept link stage =
      by_turned (connector.turned_at (arrival_in (at_link link) d.own.mon_client stage) stage) (turn-own (arrival_in (at_link link) d.own.mon_client stage) stage)
    where
      by_turned : (t : Turned MonClient connector.Stage)
          → EachRow (TurnOwn (arrival_in (arrival (me d.own) d.own link reading draw) d.own.mon_client stage) stage) t
          → Kept (turns d (arrival (me d.own) d.own link reading draw) (turn_of_kind (with_mon_client d.own) AsConnector t))
      by_turned Waits k = refl
      by_turned (Refuses why opened) k = refl
      by_turned (Handles row) k = k.0

  by-rows : (handlers : Handlers) → ByRows handlers d reading draw Kept (λ link stage. StaysIncoming (arrival_in (at_link link) d.own.mon_client stage))
  by-rows handlers = record {
    idle = refl;
    moves = λ number session o h. h;
    broken = λ link why opened. refl;
    rows = λ link stage row h. ap (λ (mon_client : MonClient). mon_client.secret) h.0;
  }

  each-kept : (handlers : Handlers) (input : Input) → RestsAndTurns handlers d reading draw input Kept
  each-kept handlers input = record {
    rests = λ o r own. r.secret;
    shown = λ view is r. r.secret;
    restarts = λ r. r.secret;
    hosting = λ number link stage at is of.
        always-weaker (TakesHosted (arrival_in (at_link link) d.own.mon_client stage)) (λ (h : Hosted). Kept (hosts d (at_link link) h))
        (λ h takes. hosted-by-rows handlers d reading draw Kept _ (by-rows handlers) link stage h takes.stays) (incoming_rule handlers d reading draw link stage)
        (incoming-takes handlers (arrival_in (at_link link) d.own.mon_client stage) stage);
    asking = λ number link stage at is of. own-kept link stage;
    fetches_there = λ link s requests is.
        (request-own NoFetch (arrival (me d.own) d.own.mon_client link reading draw) open_to_ask s requests (want.Rotating reading) (sealed_request s.keys requests asked.Rotating)).0;
  }

-- with its book
pub daemon-secret : (handlers : Handlers) (d : DaemonState) (input : Input) (reading : ℕ) (draw : List ℕ)
    → (daemon_step handlers d input reading draw).state.node.own.mon_client.secret ≡ d.node.own.mon_client.secret
daemon-secret handlers d input reading draw =
    always-book (Kept d.node reading draw) book_reply book_after d.book (daemon_rule handlers d.node input reading draw)
    (rests-keep handlers d.node reading draw input (Kept d.node reading draw) (each-kept d.node reading draw handlers input))

-- ---- nodes

turned-same : (a b : Name) (t : Bool) → same_name a b ≡ t → same_name b a ≡ t
turned-same a b true e = let same : a ≡ b = same_name_is a b e in subst (λ (n : Name). same_name n a ≡ true) same (same_name_self a)
turned-same a b false e = by_other (same_name b a) refl
  where
    by_other : (t : Bool) → same_name b a ≡ t → same_name b a ≡ false
    by_other false is = is
    by_other true is =
        let same : b ≡ a = same_name_is b a is in
        let there : same_name a b ≡ true = subst (λ (n : Name). same_name n b ≡ true) same (same_name_self b) in
        absurd (differ (sym there ∙ e))
      where
        differ : true ≡ false → ⊥
        differ x = cc

-- the keyring of the opening has this secret of the entity of this name
pub record IsSecretOf (setup : Setup) (name : Name) (secret : List ℕ) : Type 0 where
  pub entry : Principal
  pub found : find (is_named name) (ring_in setup) ≡ Some entry
  pub declared : Declared
  pub is : entry ≡ principal_of declared
  pub same : secret ≡ secret_of declared

-- so it has of each daemon
abbrev pub DaemonsHave : Setup → Nodes → Type 0
DaemonsHave setup nodes = (name : Name) (d : DaemonState) → entity_of name nodes ≡ Some (OfDaemon d) → IsSecretOf setup name d.node.own.mon_client.secret

-- what is found where one was put in its place
found-behind : (name m : Name) (new : EntityNode) → (mon_client_in new).name ≡ m → (es : List EntityNode) (x : EntityNode)
    → find (is_of name) (map (λ (e : EntityNode). if is_of m e then new else e) es) ≡ Some x → (find (is_of name) es ≡ Some x) ⊎ ((m ≡ name) × (x ≡ new))
found-behind name m new named [] x is = absurd cc
found-behind name m new named (e ∷ es) x is = by_place (is_of m e) refl is (λ found. found-behind name m new named es x found)
  where
    differ : true ≡ false → ⊥
    differ y = cc

    -- the one that was put there isn't found: nor was the one in its place
    by_new : (t : Bool) → is_of name new ≡ t → is_of m e ≡ true
        → cond t (Some new) (find (is_of name) (map (λ (y : EntityNode). if is_of m y then new else y) es)) ≡ Some x
        → (find (is_of name) (map (λ (y : EntityNode). if is_of m y then new else y) es) ≡ Some x → (find (is_of name) es ≡ Some x) ⊎ ((m ≡ name) × (x ≡ new)))
        → (cond (is_of name e) (Some e) (find (is_of name) es) ≡ Some x) ⊎ ((m ≡ name) × (x ≡ new))
    by_new true test here found rest = inr (sym named ∙ same_name_is (mon_client_in new).name name test, sym (some_is new x found))
      where
        some_is : (a b : EntityNode) → Some a ≡ Some b → a ≡ b
        some_is a b e = cc
    by_new false test here found rest = by_old (is_of name e) refl (rest found)
      where
        by_old : (t : Bool) → is_of name e ≡ t → (find (is_of name) es ≡ Some x) ⊎ ((m ≡ name) × (x ≡ new))
            → (cond t (Some e) (find (is_of name) es) ≡ Some x) ⊎ ((m ≡ name) × (x ≡ new))
        by_old false old h = h
        by_old true old h =
            let first : (mon_client_in e).name ≡ m = same_name_is (mon_client_in e).name m here in
            let second : (mon_client_in e).name ≡ name = same_name_is (mon_client_in e).name name old in
            let there : (mon_client_in new).name ≡ name = named ∙ sym first ∙ second in
            absurd (differ (sym (subst (λ (n : Name). same_name (mon_client_in new).name n ≡ true) there (same_name_self (mon_client_in new).name)) ∙ test))

    by_same : (t : Bool) → is_of name e ≡ t
        → cond t (Some e) (find (is_of name) (map (λ (y : EntityNode). if is_of m y then new else y) es)) ≡ Some x
        → (find (is_of name) (map (λ (y : EntityNode). if is_of m y then new else y) es) ≡ Some x → (find (is_of name) es ≡ Some x) ⊎ ((m ≡ name) × (x ≡ new)))
        → (cond t (Some e) (find (is_of name) es) ≡ Some x) ⊎ ((m ≡ name) × (x ≡ new))
    by_same true test found rest = inl found
    by_same false test found rest = rest found

    by_place : (t : Bool) → is_of m e ≡ t
        → find (is_of name) ((if t then new else e) ∷ map (λ (y : EntityNode). if is_of m y then new else y) es) ≡ Some x
        → (find (is_of name) (map (λ (y : EntityNode). if is_of m y then new else y) es) ≡ Some x → (find (is_of name) es ≡ Some x) ⊎ ((m ≡ name) × (x ≡ new)))
        → (find (is_of name) (e ∷ es) ≡ Some x) ⊎ ((m ≡ name) × (x ≡ new))
    by_place true here found rest = by_new (is_of name new) refl here found rest
    by_place false here found rest = by_same (is_of name e) refl found rest

module _ (setup : Setup) where
  step-have : (nodes : Nodes) (h : Happening) (m : Name) (found : Option EntityNode) → entity_of m nodes ≡ found → DaemonsHave setup nodes → DaemonsHave setup (entity_steps nodes h m found).nodes
  step-have nodes h m None is have = have
  step-have nodes h m (Some entity) is have = λ name d found.
      by_way name d
      (found-behind name m (entity_rule nodes.handlers entity h.input h.reading h.draw).state
      (entity-named nodes.handlers entity h.input h.reading h.draw ∙ same_name_is (mon_client_in entity).name m (found_passes (is_of m) nodes.entities entity is)) nodes.entities (OfDaemon d) found)
    where
      by_kind : (e : EntityNode) → entity_of m nodes ≡ Some e → (d : DaemonState) → OfDaemon d ≡ (entity_rule nodes.handlers e h.input h.reading h.draw).state → IsSecretOf setup m d.node.own.mon_client.secret
      by_kind (OfClient c) at d same = absurd cc
      by_kind (OfDaemon old) at d same =
          let new : DaemonState = (daemon_step nodes.handlers old h.input h.reading h.draw).state in
          let it : d ≡ new = daemon_is d new same in
          let kept : d.node.own.mon_client.secret ≡ old.node.own.mon_client.secret =
          ap (λ (x : DaemonState). x.node.own.mon_client.secret) it ∙ daemon-secret nodes.handlers old h.input h.reading h.draw in
          subst (IsSecretOf setup m) (sym kept) (have m old at)
        where
          daemon_is : (a b : DaemonState) → OfDaemon a ≡ OfDaemon b → a ≡ b
          daemon_is a b e = cc

      by_way : (name : Name) (d : DaemonState)
          → (find (is_of name) nodes.entities ≡ Some (OfDaemon d)) ⊎ ((m ≡ name) × (OfDaemon d ≡ (entity_rule nodes.handlers entity h.input h.reading h.draw).state))
          → IsSecretOf setup name d.node.own.mon_client.secret
      by_way name d (inl was) = have name d was
      by_way name d (inr (same, now)) = subst (λ (n : Name). IsSecretOf setup n d.node.own.mon_client.secret) same (by_kind entity is d now)

  -- what is so of the nodes of a run
  pub record HaveSecrets (nodes : Nodes) : Type 0 where
    pub ring : nodes.monitor.own.server.ring ≡ ring_in setup
    pub daemons : DaemonsHave setup nodes

  ring-on : (reading : ℕ) (draw : List ℕ) (before behind : Monitor) (es : List Entry) → ComesOn reading draw before behind es → behind.server.ring ≡ before.server.ring
  ring-on reading draw before behind es (inl e) = e.ring
  ring-on reading draw before behind es (inr e) = e.ring

  leaves : (nodes : Nodes) (o : Outcome MonitorNode) (l : Option LeftState) (saved : Option KeptState) → (monitor_steps nodes o l saved).nodes.entities ≡ nodes.entities
  leaves nodes o (Some left) (Some saved) = refl
  leaves nodes o None saved = refl
  leaves nodes o (Some left) None = refl

  node-have : (nodes : Nodes) (h : Happening) (n : NodeName) → HaveSecrets nodes → HaveSecrets (steps_of nodes h n).nodes
  node-have nodes h node.Monitor have =
      let s : Stepped = steps_of nodes h node.Monitor in
      let o : Outcome MonitorNode = monitor_rule nodes.monitor h.input h.reading h.draw in
      record {
        ring = ring-on h.reading h.draw nodes.monitor.own s.nodes.monitor.own s.out.entries (event-goes_on nodes h.input h.reading h.draw h.left) ∙ have.ring;
        daemons = λ name d found. have.daemons name d
            (subst (λ (es : List EntityNode). find (is_of name) es ≡ Some (OfDaemon d)) (leaves nodes o h.left o.out.save) found);
      }
  node-have nodes h (node.Entity name) have = record {
    ring = entity-ring (entity_of name nodes);
    daemons = step-have nodes h name (entity_of name nodes) refl have.daemons;
  }
    where
      entity-ring : (found : Option EntityNode) → (entity_steps nodes h name found).nodes.monitor.own.server.ring ≡ ring_in setup
      entity-ring None = have.ring
      entity-ring (Some entity) = have.ring

  have-onto : (hs : List Happening) (past : List Point) (nodes : Nodes) → HaveSecrets nodes → EachPoint (λ (older : List Point) (p : Point). HaveSecrets p.nodes) past
      → EachPoint (λ (older : List Point) (p : Point). HaveSecrets p.nodes) (points_onto past nodes hs)
  have-onto [] past nodes have so_far = so_far
  have-onto (h ∷ hs) past nodes have so_far = have-onto hs (record { nodes = nodes; happening = h } ∷ past) (steps nodes h).nodes (node-have nodes h h.node have) (have, so_far)

  -- ---- the opening

  first-named : (e : Declared) → (mon_client_in (entity_in e)).name ≡ e.name
  first-named e = by_kind (is_daemon_type e.name.kind)
    where
      by_kind : (daemon : Bool) → (mon_client_in (if daemon then OfDaemon (daemon_opening (mon_client_of e)) else OfClient (opening_whole_client (mon_client_of e)))).name ≡ e.name
      by_kind true = refl
      by_kind false = refl

  first-secret : (e : Declared) → (mon_client_in (entity_in e)).secret ≡ secret_of e
  first-secret e = by_kind (is_daemon_type e.name.kind)
    where
      by_kind : (daemon : Bool) → (mon_client_in (if daemon then OfDaemon (daemon_opening (mon_client_of e)) else OfClient (opening_whole_client (mon_client_of e)))).secret ≡ secret_of e
      by_kind true = refl
      by_kind false = refl

  -- the entity and the entry of a name stand at one place
  record AreBoth (name : Name) (es : List Declared) (x : EntityNode) : Type 0 where
    entry : Principal
    found : find (is_named name) (map principal_of es) ≡ Some entry
    declared : Declared
    is : entry ≡ principal_of declared
    same : (mon_client_in x).secret ≡ secret_of declared

  first-both : (name : Name) (es : List Declared) (x : EntityNode) → find (is_of name) (map entity_in es) ≡ Some x → AreBoth name es x
  first-both name [] x is = absurd cc
  first-both name (e ∷ es) x is = by_test (is_of name (entity_in e)) refl is (λ found. first-both name es x found)
    where
      by_test : (t : Bool) → is_of name (entity_in e) ≡ t → cond t (Some (entity_in e)) (find (is_of name) (map entity_in es)) ≡ Some x
          → (find (is_of name) (map entity_in es) ≡ Some x → AreBoth name es x) → AreBoth name (e ∷ es) x
      by_test true test found rest =
          let here : same_name e.name name ≡ true = subst (λ (n : Name). same_name n name ≡ true) (first-named e) test in
          let same : entity_in e ≡ x = cc in
          record {
            entry = principal_of e;
            found = ap (λ (t : Bool). cond t (Some (principal_of e)) (find (is_named name) (map principal_of es))) (turned-same e.name name true here);
            declared = e;
            is = refl;
            same = ap (λ (y : EntityNode). (mon_client_in y).secret) (sym same) ∙ first-secret e;
          }
      by_test false test found rest =
          let here : same_name e.name name ≡ false = subst (λ (n : Name). same_name n name ≡ false) (first-named e) test in
          let b : AreBoth name es x = rest found in
          record {
            entry = b.entry;
            found = ap (λ (t : Bool). cond t (Some (principal_of e)) (find (is_named name) (map principal_of es))) (turned-same e.name name false here) ∙ b.found;
            declared = b.declared;
            is = b.is;
            same = b.same;
          }

  first-have : HaveSecrets (nodes_of setup)
  first-have = record {
    ring = refl;
    daemons = λ name d found. let b = first-both name setup.entities (OfDaemon d) found in
        record { entry = b.entry; found = b.found; declared = b.declared; is = b.is; same = b.same };
  }

  -- at each event
  pub all-have : (hs : List Happening) → EachPoint (λ (older : List Point) (p : Point). HaveSecrets p.nodes) (points setup hs)
  all-have hs = have-onto hs [] (nodes_of setup) first-have tt

-- the secret that the monitor has of a daemon is the one that it has itself
pub told-secret : (setup : Setup) (name : Name) (secret : List ℕ) → IsSecretOf setup name secret → (nodes : Nodes) → HaveSecrets setup nodes → (reading : ℕ) (draw : List ℕ) (own : Key)
    → key_of (rotated_server reading draw nodes.monitor.own.server) name ≡ Some own → own.secret ≡ secret
told-secret setup name secret s nodes have reading draw own is =
    let there : find (is_named name) nodes.monitor.own.server.ring ≡ Some s.entry = ap (λ (ring : List Principal). find (is_named name) ring) have.ring ∙ s.found in
    let found : Some s.entry.key ≡ Some own = sym (ap (λ (o : Option Principal). option_map (λ (e : Principal). e.key) o) there) ∙ is in
    let same : s.entry.key ≡ own = key_is s.entry.key own found in
    ap (λ (k : Key). k.secret) (sym same) ∙ ap (λ (e : Principal). e.key.secret) s.is ∙ sym s.same
  where
    key_is : (a b : Key) → Some a ≡ Some b → a ≡ b
    key_is a b e = cc
