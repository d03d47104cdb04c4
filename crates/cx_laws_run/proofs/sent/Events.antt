-- Behind each event of a run all that was said on links to daemons is known, and what daemons handle then was sent; so it is of every list of events.
use Rattle.std.proofs.Common.{◌≡◌, ℕ, false, List, [], ◌∷◌, ◌++◌, length, map, Option, Some, None, inl, inr, ◌⊎◌, refl, sym, ap, ◌∙◌, subst}
use Rattle.std.proofs.lemmas.List.Elements.{Contains-push_cases}
use Rattle.std.specs.Prelude.{Contains}
use Rattle.std.specs.List.{AllByRecursion}
use Rattle.cx_base.proofs.Names.{same_name_is}
use Rattle.cx_base.specs.Names.{Name}
use Rattle.cx_base.specs.declared.nodes.NodeName.{NodeName}
use Rattle.cx_base.specs.declared.nodes.NodeName.TheVariants as node
use Rattle.cx_journal.specs.Behind.{EachBehind}
use Rattle.cx_journal.specs.declared.entries.Admitted.{Admitted}
use Rattle.cx_journal.specs.declared.entries.Entry.{Entry}
use Rattle.cx_journal.specs.declared.entries.Entry.TheVariants as journal
use Rattle.cx_laws_run.specs.cx_laws_tickets.proofs.authorize.Backing.{AllGood}
use Rattle.cx_laws_run.specs.cx_laws_tickets.proofs.calling.Between.{ClientOk}
use Rattle.cx_laws_run.specs.cx_laws_keys.proofs.keys.Journal.{After, entered}
use Rattle.cx_laws_run.specs.cx_laws_keys.proofs.keys.Known.{Inv, IsAllowed, Within}
use Rattle.cx_laws_run.specs.cx_laws_keys.proofs.keys.Lists.{all-map, found_all, found_passes, map-append}
use Rattle.cx_laws_run.specs.cx_laws_keys.proofs.keys.Premises.{AreGranted, IsGranted, behind, granted-step}
use Rattle.cx_laws_run.specs.cx_laws_keys.proofs.keys.Uses.{Uses, WholeRun}
use Rattle.cx_laws_links.proofs.links.IncomingNodes.{LinksKnown}
use Rattle.cx_laws_links.proofs.links.IncomingWords.{AreSpelled}
use Rattle.cx_laws_links.proofs.links.Known.{AreTold, Told}
use Rattle.cx_laws_links.proofs.links.Lifting.{told-stays}
use Rattle.cx_laws_links.proofs.links.Spoken.{is_connectors}
use Rattle.cx_laws_links.proofs.links.Written.{IsLinkKey, all-behind, elsewhere}
use Rattle.cx_laws_run.specs.cx_laws_keys.proofs.login.Entering.{within-all}
use Rattle.cx_laws_sessions.proofs.queues.Runs.{AllQueues, EntityQueues, node-run}
use Rattle.cx_laws_run.proofs.run.Events.{AllOccur, DaemonOk, EntityOk, NodesOk, entered-append, entries-by, event-after, good-behind}
use Rattle.cx_laws_run.proofs.run.Journals.{behind-append}
use Rattle.cx_laws_run.specs.run.Laws.{AreBytes}
use Rattle.cx_laws_links.specs.cx_laws_keys.proofs.series.Contents.{contents_by}
use Rattle.cx_laws_sessions.proofs.session.Clients.{IsMute, client-mute}
use Rattle.cx_laws_sessions.proofs.session.Monitors.{monitor-mute}
use Rattle.cx_words.specs.declared.choices.LeftState.{LeftState}
use Rattle.cx_rotate.specs.declared.states.KeptState.{KeptState}
use Rattle.cx_laws_sessions.specs.cx_rules.specs.Monitor.{MonitorNode}
use Rattle.cx_laws_sessions.specs.cx_rules.specs.MonitorRule.{monitor_rule}
use Rattle.cx_laws_sessions.specs.cx_rules.specs.Rows.{Outcome}
use Rattle.cx_laws_sessions.specs.cx_rules_session.specs.ClientRule.{WholeClientNode, me, whole_client_rule}
use Rattle.cx_laws_sessions.specs.cx_rules_session.specs.DaemonRule.{DaemonState, daemon_step}
use Rattle.cx_laws_sessions.specs.cx_run.proofs.DaemonNamed.{daemon-named}
use Rattle.cx_laws_sessions.specs.cx_run.specs.Happenings.{Entered, EntityNode, Happening, Nodes, OfClient, OfDaemon, Stepped, mon_client_in, entered_by, entity_of, entity_steps, is_of, journal_from, monitor_steps, seals_from, steps, steps_of}
use Rattle.cx_laws_sessions.specs.cx_run.specs.Visits.{IsNoLook, IsUnvisited}
use Rattle.cx_steps.specs.Onto.{EachOnto}
use Rattle.cx_steps.specs.declared.seals.Logged.{Logged}
use Rattle.cx_laws_run.proofs.sent.OtherNodes.{acceptors-one, all-replaced, moved-entity, one-replaced, silent-entity}
use Rattle.cx_laws_links.proofs.links.Since.{since}
use Rattle.cx_laws_run.proofs.sent.Elsewhere.{entity-within, mute-within}
use Rattle.cx_laws_run.proofs.sent.State.{ClientBehind, DaemonBehind, EntitiesKnown, EntityKnown, HeardLaw, IsLinkAt}
use Rattle.cx_laws_run.proofs.sent.Steps.{ClientReady, ClientStep, DaemonReady, DaemonStep}
use Rattle.cx_laws_run.specs.sent.Fitting.{AreFit, IsFit}

-- ---- entries of nodes that have no sessions

mute-heard : (run : WholeRun) (who : NodeName) (J es : List Entry) → AllByRecursion (IsMute who) es → EachBehind (HeardLaw run) J es
mute-heard run who J [] h = tt
mute-heard run who J (e ∷ es) h = (by_entry e h.0, mute-heard run who (J ++ e ∷ []) es h.1)
  where
    by_entry : (x : Entry) → IsMute who x → HeardLaw run J x
    by_entry (journal.Admitted x) m = absurd m
    by_entry (journal.Handled x) m = absurd m
    by_entry _ m = tt

mute-admits : (who : NodeName) (J es : List Entry) → AllByRecursion (IsMute who) es → (session : Admitted) → Contains (entered J es) (journal.Admitted session) → Contains J (journal.Admitted session)
mute-admits who J [] h session has = has
mute-admits who J (e ∷ es) h session has = by_place e h.0 (Contains-push_cases J e (journal.Admitted session) (mute-admits who (J ++ e ∷ []) es h.1 session has))
  where
    by_place : (x : Entry) → IsMute who x → Contains J (journal.Admitted session) ⊎ (x ≡ journal.Admitted session) → Contains J (journal.Admitted session)
    by_place x m (inl was) = was
    by_place x m (inr same) = absurd (subst (λ (y : Entry). IsMute who y) same m)

-- ---- what is known behind an event

-- of all that was said on links to daemons, and of each entity
pub record RunKnown (run : WholeRun) (us : Uses) (told : Told) (log : List Logged) (J : List Entry) (entities : List EntityNode) : Type 0 where
  pub known_of : AreTold run us told log J
  pub spelled : AreSpelled told
  pub all : EntitiesKnown run us told log J entities

-- behind a step of a node: so it is, and what is entered was heard
pub record KnownBehind (run : WholeRun) (vs : Uses) (log : List Logged) (n : NodeName) (line : ℕ) (J : List Entry) (s : Stepped) : Type 0 where
  pub next : Told
  pub known : RunKnown run vs next (behind n line s.out.seals log) (entered J s.out.entries) s.nodes.entities
  pub heard : EachBehind (HeardLaw run) J s.out.entries

-- what comes to a node
pub record Comes (run : WholeRun) (n : NodeName) (h : Happening) : Type 0 where
  pub drawn : length h.draw ≡ 384
  pub bytes : AreBytes h.draw
  pub fits : IsFit h.input
  pub looks : IsNoLook h.input
  pub comes : run.incoming_links ≡ false → IsUnvisited n h.input

entity-apart : (name : Name) → node.Monitor ≡ node.Entity name → ⊥
entity-apart name e = cc

same-entity : (name other : Name) → node.Entity name ≡ node.Entity other → name ≡ other
same-entity name other e = cc

-- the monitor changes no entity
monitor-leaves : (nodes : Nodes) (o : Outcome MonitorNode) (l : Option LeftState) (saved : Option KeptState) → (monitor_steps nodes o l saved).nodes.entities ≡ nodes.entities
monitor-leaves nodes o (Some l) (Some saved) = refl
monitor-leaves nodes o None saved = refl
monitor-leaves nodes o (Some l) None = refl

module _ (run : WholeRun) (whole : List Logged) (client_step : ClientStep run whole) (daemon_step_of : DaemonStep run whole) where
  module _ (us : Uses) (told : Told) (log : List Logged) (J : List Entry) (nodes : Nodes) (i : Inv run whole us log J) (ok : NodesOk run nodes us J) (good : AllGood run J) (queues : AllQueues J nodes.entities)
      (known : RunKnown run us told log J nodes.entities) where
    abbrev AfterStepped : NodeName → ℕ → Stepped → Type 0
    AfterStepped n line s = After run whole n line us log J s.out.seals s.out.entries (NodesOk run s.nodes)

    -- ---- of a node that says nothing, and changes no entity

    pub silent-run : (n : NodeName) (line : ℕ) (s : Stepped) → (a : AfterStepped n line s) → s.nodes.entities ≡ nodes.entities → AllByRecursion (IsMute n) s.out.entries
        → ((daemon : Name) → Within (since daemon J) (since daemon (entered J s.out.entries))) → ((key : List ℕ) (name : Name) (tie : ℕ) → IsLinkKey a.uses key name tie → contents_by key is_connectors s.out.seals ≡ [])
        → RunKnown run a.uses told (behind n line s.out.seals log) (entered J s.out.entries) s.nodes.entities
    silent-run n line s a same mute w quiet =
        let K : List Entry = entered J s.out.entries in
        let later : List Logged = behind n line s.out.seals log in
        let all : EntitiesKnown run a.uses told later K nodes.entities =
        all-map (EntityKnown run us told log J) (EntityKnown run a.uses told later K)
        (λ e h. silent-entity run us a.uses i.one a.inv.one a.grows told log n line s.out.seals J K quiet told.joins e (w (mon_client_in e).name) (λ key cookie has. inl has) h)
        nodes.entities known.all in
        record {
          known_of = told-stays run whole us a.uses told log J K n line s.out.seals a.inv.one a.grows (within-all J s.out.entries) i quiet (mute-admits n J s.out.entries mute) known.known_of;
          spelled = known.spelled;
          all = subst (λ (es : List EntityNode). EntitiesKnown run a.uses told later K es) (sym same) all;
        }

    silent-known : (n : NodeName) (line : ℕ) (s : Stepped) → (a : AfterStepped n line s) → s.nodes.entities ≡ nodes.entities → AllByRecursion (IsMute n) s.out.entries
        → ((daemon : Name) → Within (since daemon J) (since daemon (entered J s.out.entries))) → ((key : List ℕ) (name : Name) (tie : ℕ) → IsLinkKey a.uses key name tie → contents_by key is_connectors s.out.seals ≡ []) → KnownBehind run a.uses log n line J s
    silent-known n line s a same mute w quiet = record { next = told; known = silent-run n line s a same mute w quiet; heard = mute-heard run n J s.out.entries mute }

    -- ---- the monitor

    pub monitor-run : (line : ℕ) (s : Stepped) → (a : AfterStepped node.Monitor line s) → s.nodes.entities ≡ nodes.entities → AllByRecursion (IsMute node.Monitor) s.out.entries
        → RunKnown run a.uses told (behind node.Monitor line s.out.seals log) (entered J s.out.entries) s.nodes.entities
    monitor-run line s a same mute =
        let K : List Entry = entered J s.out.entries in
        let allowed : AllByRecursion (IsAllowed a.uses K node.Monitor) s.out.seals =
        (all-behind (λ (at : Logged). IsAllowed a.uses K at.node at.entry) node.Monitor line s.out.seals log a.inv.allowed).0 in
        silent-run node.Monitor line s a same mute (λ daemon. mute-within node.Monitor daemon refl s.out.entries J mute)
        (λ key name tie is. elsewhere a.uses K node.Monitor key name tie a.inv.one is (entity-apart name) s.out.seals allowed)

    monitor-known : (line : ℕ) (s : Stepped) → (a : AfterStepped node.Monitor line s) → s.nodes.entities ≡ nodes.entities → AllByRecursion (IsMute node.Monitor) s.out.entries
        → KnownBehind run a.uses log node.Monitor line J s
    monitor-known line s a same mute = record { next = told; known = monitor-run line s a same mute; heard = mute-heard run node.Monitor J s.out.entries mute }

    -- ---- an entity

    pub client-ready : (h : Happening) (name : Name) (c : WholeClientNode) → entity_of name nodes ≡ Some (OfClient c) → Comes run (node.Entity name) h
        → AreGranted run.leaked whole (node.Entity name) h.line log (whole_client_rule c h.input h.reading h.draw).out.seals
        → (a : AfterStepped (node.Entity name) h.line (entity_steps nodes h name (Some (OfClient c))))
        → ClientReady run whole us a.uses told log h.line J name c h.input h.draw (whole_client_rule c h.input h.reading h.draw)
    client-ready h name c found comes g a =
        let o : Outcome WholeClientNode = whole_client_rule c h.input h.reading h.draw in
        let K : List Entry = entered J o.out.entries in
        record {
          named = same_name_is c.own.mon_client.name name (found_passes (is_of name) nodes.entities (OfClient c) found);
          inv = i;
          grows = a.grows;
          inv_behind = a.inv;
          known_of = known.known_of;
          spelled = known.spelled;
          client = found_all (EntityKnown run us told log J) (is_of name) nodes.entities (OfClient c) known.all found;
          ok = found_all (EntityOk run us J) (is_of name) nodes.entities (OfClient c) ok.entities found;
          ok_behind = one-replaced (EntityOk run a.uses K) name (OfClient o.state) (OfClient c) nodes.entities found a.good.entities;
          queues = found_all (EntityQueues J) (is_of name) nodes.entities (OfClient c) queues found;
          drawn = comes.drawn;
          bytes = comes.bytes;
          fits = comes.fits;
          looks = comes.looks;
          comes = comes.comes;
          granted = g;
        }

    -- what is known of all entities where what a step of it comes to is
    pub client-run : (h : Happening) (name : Name) (c : WholeClientNode) → entity_of name nodes ≡ Some (OfClient c)
        → (a : AfterStepped (node.Entity name) h.line (entity_steps nodes h name (Some (OfClient c)))) →
        let o : Outcome WholeClientNode = whole_client_rule c h.input h.reading h.draw in
        (b : ClientBehind run us a.uses told log h.line (entered J o.out.entries) name c o)
        → RunKnown run a.uses b.next (behind (node.Entity name) h.line o.out.seals log) (entered J o.out.entries) (entity_steps nodes h name (Some (OfClient c))).nodes.entities
    client-run h name c found a b =
        let o : Outcome WholeClientNode = whole_client_rule c h.input h.reading h.draw in
        let K : List Entry = entered J o.out.entries in
        let later : List Logged = behind (node.Entity name) h.line o.out.seals log in
        let named : c.own.mon_client.name ≡ name = same_name_is c.own.mon_client.name name (found_passes (is_of name) nodes.entities (OfClient c) found) in
        record {
          known_of = b.known_of;
          spelled = b.spelled;
          all = all-replaced (EntityKnown run us told log J) (EntityKnown run a.uses b.next later K) name (OfClient o.state) b.client
              (λ e apart x. moved-entity run us a.uses i.one a.inv.one a.grows told log (node.Entity name) h.line o.out.seals J K name b.number b.next b.moved e
              (entity-within nodes h (OfClient c) (mon_client_in e).name (λ same. apart (sym same ∙ named)) J) apart x)
              nodes.entities known.all;
        }

    client-known : (h : Happening) (name : Name) (c : WholeClientNode) → entity_of name nodes ≡ Some (OfClient c) → Comes run (node.Entity name) h
        → AreGranted run.leaked whole (node.Entity name) h.line log (whole_client_rule c h.input h.reading h.draw).out.seals
        → (a : AfterStepped (node.Entity name) h.line (entity_steps nodes h name (Some (OfClient c))))
        → KnownBehind run a.uses log (node.Entity name) h.line J (entity_steps nodes h name (Some (OfClient c)))
    client-known h name c found comes g a =
        let o : Outcome WholeClientNode = whole_client_rule c h.input h.reading h.draw in
        let b : ClientBehind run us a.uses told log h.line (entered J o.out.entries) name c o =
        client_step us a.uses told log h.line J name c h.input h.reading h.draw (client-ready h name c found comes g a) in
        record {
          next = b.next;
          known = client-run h name c found a b;
          heard = mute-heard run (me c.own) J o.out.entries (client-mute c h.input h.reading h.draw);
        }

    pub daemon-ready : (h : Happening) (name : Name) (d : DaemonState) → entity_of name nodes ≡ Some (OfDaemon d) → Comes run (node.Entity name) h
        → AreGranted run.leaked whole (node.Entity name) h.line log (daemon_step nodes.handlers d h.input h.reading h.draw).out.seals
        → (a : AfterStepped (node.Entity name) h.line (entity_steps nodes h name (Some (OfDaemon d))))
        → DaemonReady run whole us a.uses told log h.line J name d h.input h.draw (daemon_step nodes.handlers d h.input h.reading h.draw)
    daemon-ready h name d found comes g a =
        let o : Outcome DaemonState = daemon_step nodes.handlers d h.input h.reading h.draw in
        let K : List Entry = entered J o.out.entries in
        let named : d.node.own.mon_client.name ≡ name = same_name_is d.node.own.mon_client.name name (found_passes (is_of name) nodes.entities (OfDaemon d) found) in
        let links : LinksKnown run us told J d.node.own.mon_client.name (node.Entity d.node.own.mon_client.name) d.node.links =
        found_all (EntityKnown run us told log J) (is_of name) nodes.entities (OfDaemon d) known.all found in
        record {
          named = named;
          inv = i;
          grows = a.grows;
          inv_behind = a.inv;
          known_of = known.known_of;
          spelled = known.spelled;
          links = subst (λ (m : Name). LinksKnown run us told J m (node.Entity m) d.node.links) named links;
          ok = found_all (EntityOk run us J) (is_of name) nodes.entities (OfDaemon d) ok.entities found;
          ok_behind = one-replaced (EntityOk run a.uses K) name (OfDaemon o.state) (OfDaemon d) nodes.entities found a.good.entities;
          good = good;
          counts = found_all (EntityQueues J) (is_of name) nodes.entities (OfDaemon d) queues found;
          drawn = comes.drawn;
          bytes = comes.bytes;
          looks = comes.looks;
          comes = comes.comes;
          granted = g;
        }

    pub daemon-run : (h : Happening) (name : Name) (d : DaemonState) → entity_of name nodes ≡ Some (OfDaemon d)
        → (a : AfterStepped (node.Entity name) h.line (entity_steps nodes h name (Some (OfDaemon d)))) →
        let o : Outcome DaemonState = daemon_step nodes.handlers d h.input h.reading h.draw in
        (b : DaemonBehind run a.uses told log h.line J (entered J o.out.entries) name o)
        → RunKnown run a.uses (record told { joins = b.joins }) (behind (node.Entity name) h.line o.out.seals log) (entered J o.out.entries) (entity_steps nodes h name (Some (OfDaemon d))).nodes.entities
    daemon-run h name d found a b =
        let o : Outcome DaemonState = daemon_step nodes.handlers d h.input h.reading h.draw in
        let K : List Entry = entered J o.out.entries in
        let later : List Logged = behind (node.Entity name) h.line o.out.seals log in
        let named : d.node.own.mon_client.name ≡ name = same_name_is d.node.own.mon_client.name name (found_passes (is_of name) nodes.entities (OfDaemon d) found) in
        let still : o.state.node.own.mon_client.name ≡ name = daemon-named nodes.handlers d h.input h.reading h.draw ∙ named in
        let next : Told = record told { joins = b.joins } in
        record {
          known_of = b.known_of;
          spelled = known.spelled;
          all = all-replaced (EntityKnown run us told log J) (EntityKnown run a.uses next later K) name (OfDaemon o.state)
              (subst (λ (m : Name). LinksKnown run a.uses next K m (node.Entity m) o.state.node.links) (sym still) b.links)
              (λ e apart x. silent-entity run us a.uses i.one a.inv.one a.grows told log (node.Entity name) h.line o.out.seals J K b.quiet b.joins e
              (entity-within nodes h (OfDaemon d) (mon_client_in e).name (λ same. apart (sym same ∙ named)) J)
              (λ key cookie has. elsewhere_joined key cookie (mon_client_in e).name apart (b.own key cookie has)) x)
              nodes.entities known.all;
        }
      where
        elsewhere_joined : (key : List ℕ) (cookie : ℕ) (other : Name) → (other ≡ name → ⊥) → Contains told.joins (key, cookie) ⊎ IsLinkAt a.uses key (node.Entity name)
            → Contains told.joins (key, cookie) ⊎ (IsLinkAt a.uses key (node.Entity other) → ⊥)
        elsewhere_joined key cookie other apart (inl was) = inl was
        elsewhere_joined key cookie other apart (inr own) =
            inr (λ there. apart (same-entity other name (acceptors-one a.uses a.inv.one key (node.Entity other) (node.Entity name) there own)))

    daemon-known : (h : Happening) (name : Name) (d : DaemonState) → entity_of name nodes ≡ Some (OfDaemon d) → Comes run (node.Entity name) h
        → AreGranted run.leaked whole (node.Entity name) h.line log (daemon_step nodes.handlers d h.input h.reading h.draw).out.seals
        → (a : AfterStepped (node.Entity name) h.line (entity_steps nodes h name (Some (OfDaemon d))))
        → KnownBehind run a.uses log (node.Entity name) h.line J (entity_steps nodes h name (Some (OfDaemon d)))
    daemon-known h name d found comes g a =
        let o : Outcome DaemonState = daemon_step nodes.handlers d h.input h.reading h.draw in
        let b : DaemonBehind run a.uses told log h.line J (entered J o.out.entries) name o =
        daemon_step_of us a.uses told log h.line J name nodes.handlers d h.input h.reading h.draw (daemon-ready h name d found comes g a) in
        record { next = record told { joins = b.joins }; known = daemon-run h name d found a b; heard = b.heard }

    entity-known : (h : Happening) (name : Name) (found : Option EntityNode) → entity_of name nodes ≡ found → Comes run (node.Entity name) h
        → AreGranted run.leaked whole (node.Entity name) h.line log (entity_steps nodes h name found).out.seals → (a : AfterStepped (node.Entity name) h.line (entity_steps nodes h name found))
        → KnownBehind run a.uses log (node.Entity name) h.line J (entity_steps nodes h name found)
    entity-known h name None is comes g a = silent-known (node.Entity name) h.line (entity_steps nodes h name None) a refl tt (λ daemon. record { has = λ e has. has }) (λ key whose tie is. refl)
    entity-known h name (Some (OfClient c)) is comes g a = client-known h name c is comes g a
    entity-known h name (Some (OfDaemon d)) is comes g a = daemon-known h name d is comes g a

    -- ---- any event

    at-node : (h : Happening) (n : NodeName) → Comes run n h
        → AreGranted run.leaked whole n h.line log (steps_of nodes h n).out.seals → (a : AfterStepped n h.line (steps_of nodes h n)) → KnownBehind run a.uses log n h.line J (steps_of nodes h n)
    at-node h node.Monitor comes g a =
        let o : Outcome MonitorNode = monitor_rule nodes.monitor h.input h.reading h.draw in
        monitor-known h.line (monitor_steps nodes o h.left o.out.save) a (monitor-leaves nodes o h.left o.out.save) (monitor-mute nodes h.input h.reading h.draw h.left)
    at-node h (node.Entity name) comes g a = entity-known h name (entity_of name nodes) refl comes g a

    pub event-known : (h : Happening) → Comes run h.node h → AreGranted run.leaked whole h.node h.line log (steps nodes h).out.seals
        → (a : AfterStepped h.node h.line (steps nodes h)) → KnownBehind run a.uses log h.node h.line J (steps nodes h)
    event-known h comes g a = at-node h h.node comes g a

  -- ---- every list of events

  pub events-heard : (hs : List Happening) (nodes : Nodes) (us : Uses) (told : Told) (log : List Logged) (J : List Entry) → Inv run whole us log J → NodesOk run nodes us J → AllGood run J
      → AllQueues J nodes.entities → RunKnown run us told log J nodes.entities → AllOccur run nodes hs → AllByRecursion (λ (h : Happening). AreBytes h.draw) hs → AreFit hs
      → EachOnto (IsGranted run.leaked whole) log (seals_from nodes hs) → EachBehind (HeardLaw run) J (map (λ (x : Entered). x.entry) (journal_from nodes hs))
  events-heard [] nodes us told log J i ok good queues known m bytes fits g = tt
  events-heard (h ∷ hs) nodes us told log J i ok good queues known m bytes fits g =
      let s : Stepped = steps nodes h in
      let gs = granted-step run.leaked whole h.node h.line log s.out.seals (seals_from s.nodes hs) g in
      let a = event-after run whole us log J nodes h i ok good m.0 gs.0 in
      let b : KnownBehind run a.uses log h.node h.line J s = event-known us told log J nodes i ok good queues known h
      (record { drawn = m.0.drawn; bytes = bytes.0; fits = fits.0; looks = m.0.looks; comes = m.0.comes }) gs.0 a in
      let queued : AllQueues (entered J s.out.entries) s.nodes.entities =
      subst (λ (l : List Entry). AllQueues l s.nodes.entities) (sym (entered-append J s.out.entries)) (node-run J nodes h h.node queues).queues in
      let rest = events-heard hs s.nodes a.uses b.next (behind h.node h.line s.out.seals log) (entered J s.out.entries) a.inv a.good
      (good-behind run s.nodes a.uses J s.out.entries a.good good m.0.good) queued b.known m.1 bytes.1 fits.1 gs.1 in
      let later : List Entry = map (λ (x : Entered). x.entry) (journal_from s.nodes hs) in
      let both : EachBehind (HeardLaw run) J (s.out.entries ++ later) = behind-append (HeardLaw run) J s.out.entries later b.heard rest in
      let same : map (λ (x : Entered). x.entry) (entered_by h s.out ++ journal_from s.nodes hs) ≡ s.out.entries ++ later =
      map-append (λ (x : Entered). x.entry) (entered_by h s.out) (journal_from s.nodes hs) ∙ ap (λ (l : List Entry). l ++ later) (entries-by h s.out.entries) in
      subst (λ (l : List Entry). EachBehind (HeardLaw run) J l) (sym same) both
