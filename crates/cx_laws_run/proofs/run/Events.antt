-- An event of a run, and every list of events.
use Rattle.std.proofs.Common.{◌≡◌, ℕ, Bool, true, false, List, [], ◌∷◌, ◌++◌, length, map, filter, Option, Some, None, refl, sym, ap, ◌∙◌, subst, arith, append-nil, append_assoc, ◌⊎◌, inl, inr, ◌<◌, ◌^◌}
use Rattle.std.specs.Prelude.{Contains, if◌then◌else◌}
use Rattle.std.specs.List.{AllByRecursion}
use Rattle.cx_base.proofs.Names.{same_name_is}
use Rattle.cx_base.specs.Names.{Name, is_daemon_type}
use Rattle.cx_journal.specs.Behind.{EachBehind}
use Rattle.cx_journal.specs.declared.entries.Entry.{Entry}
use Rattle.cx_journal.specs.declared.entries.Entry.TheVariants as journal
use Rattle.cx_journal.specs.declared.entries.Issued.{Issued}
use Rattle.cx_base.specs.declared.nodes.NodeName.{NodeName}
use Rattle.cx_base.specs.declared.nodes.NodeName.TheVariants as node
use Rattle.cx_words.specs.declared.choices.LeftState.{LeftState}
use Rattle.cx_words.specs.declared.choices.LeftState.TheVariants as left
use Rattle.cx_rotate.specs.declared.states.KeptState.{KeptState}
use Rattle.cx_laws_links.specs.cx_laws_tickets.specs.cx_rules_session.specs.ClientRule.{WholeClientNode, whole_client_rule}
use Rattle.cx_laws_links.specs.cx_laws_tickets.specs.cx_rules.specs.Monitor.{MonitorNode}
use Rattle.cx_laws_links.specs.cx_laws_tickets.specs.cx_rules.specs.MonitorRule.{monitor_rule}
use Rattle.cx_laws_links.specs.cx_laws_tickets.specs.cx_rules.specs.Rows.{Outcome}
use Rattle.cx_laws_links.specs.cx_laws_tickets.specs.cx_run.specs.Happenings.{Entered, Happening, Nodes, Stepped, entered_by, failed_out, is_of, journal_from, left_as, monitor_steps, seals_from, stays, steps, steps_of, EntityNode, OfClient, OfDaemon, entity_of, entity_steps, with_entity}
use Rattle.cx_steps.specs.Nothing.{nothing}
use Rattle.cx_steps.specs.Onto.{EachOnto}
use Rattle.cx_steps.specs.declared.seals.Logged.{Logged}
use Rattle.cx_laws_links.specs.cx_laws_tickets.specs.cx_laws_keys.proofs.keys.Journal.{After, EntryLaw, entered}
use Rattle.cx_laws_links.specs.cx_laws_tickets.specs.cx_laws_keys.proofs.keys.Known.{Inv, Within}
use Rattle.cx_laws_links.specs.cx_laws_tickets.specs.cx_laws_keys.proofs.keys.Lists.{all-map, found_all, found_passes, map-append}
use Rattle.cx_laws_links.specs.cx_laws_tickets.specs.cx_laws_keys.proofs.keys.Premises.{AreGranted, IsGranted, behind, granted-step}
use Rattle.cx_laws_links.specs.cx_laws_tickets.specs.cx_laws_keys.proofs.keys.Uses.{Grows, Uses, WholeRun, grows-from, grows-saved, grows-then}
use Rattle.cx_laws_links.specs.cx_laws_tickets.specs.cx_laws_keys.proofs.keys.Uses.{stays as same_uses}
use Rattle.cx_laws_links.specs.cx_laws_tickets.proofs.calling.Between.{ClientOk, client-grows, client-steps}
use Rattle.cx_laws_links.specs.cx_laws_tickets.specs.cx_run.specs.Calling.{IsNoCall}
use Rattle.cx_laws_links.specs.cx_laws_tickets.specs.cx_laws_keys.proofs.login.Entering.{within-all}
use Rattle.cx_laws_links.specs.cx_laws_tickets.specs.cx_laws_keys.proofs.login.Facts.{OwnOk, own-grows, Owner, MonClientKnown, known-grows}
use Rattle.cx_laws_links.specs.cx_laws_tickets.specs.cx_laws_keys.proofs.login.Generations.{state-grows, AreRecorded, tagged, tagged-recorded}
use Rattle.cx_laws_links.specs.cx_laws_tickets.specs.cx_laws_keys.proofs.login.MonitorRows.{monitor_says}
use Rattle.cx_laws_links.specs.cx_laws_tickets.specs.cx_laws_keys.proofs.login.MonitorStep.{MonitorOk, between, between-less, monitor-after, unsaved-ok}
use Rattle.cx_laws_links.specs.cx_laws_tickets.specs.cx_laws_keys.proofs.login.Rows.{NodeOk, links-grow}
use Rattle.cx_laws_run.proofs.run.Journals.{behind-append}
use Rattle.cx_laws_run.proofs.run.Saves.{inv-failed, thick}
use Rattle.cx_laws_run.proofs.run.Unvisited.{unvisited-calls, unvisited-incoming}
use Rattle.cx_laws_links.specs.cx_laws_tickets.specs.cx_run.proofs.DaemonNamed.{daemon-named}
use Rattle.cx_laws_links.specs.cx_laws_tickets.specs.cx_rules_session.specs.DaemonRule.{DaemonNode, DaemonState, daemon_step}
use Rattle.cx_laws_links.specs.cx_laws_tickets.proofs.authorize.Backing.{IsGood, backing-grows, AllGood}
use Rattle.cx_laws_links.specs.cx_laws_tickets.specs.authorize.Coming.{IsNoIncoming}
use Rattle.cx_laws_links.specs.cx_laws_tickets.proofs.authorize.DaemonRows.{DaemonHas, LinksHave, daemon_links-grow}
use Rattle.cx_laws_links.specs.cx_laws_tickets.proofs.authorize.DaemonStep.{daemon-after}
use Rattle.cx_laws_links.specs.cx_laws_tickets.proofs.authorize.Telling.{IsBackedLink}
use Rattle.cx_laws_links.specs.cx_laws_tickets.specs.cx_laws_keys.proofs.keys.Steps.{inv-saved, within-itself}
use Rattle.std.proofs.lemmas.List.Elements.{Contains-append_cases}
use Rattle.cx_base.specs.declared.kinds.EntityType.{EntityType}
use Rattle.cx_rotate.specs.declared.generations.Generation.{Generation}
use Rattle.cx_laws_links.specs.cx_laws_tickets.specs.cx_run.specs.Visits.{IsNoLook, IsUnvisited}

-- of a daemon: so also the keys of its incoming links, and that the authority of each has its ticket
pub record DaemonOk (run : WholeRun) (us : Uses) (J : List Entry) (d : DaemonNode) : Type 0 where
  pub known : MonClientKnown run us d.own.mon_client.name d.own.mon_client.secret d.own.mon_client.view
  pub of : is_daemon_type d.own.mon_client.name.kind ≡ true
  pub links : LinksHave run (node.Entity d.own.mon_client.name) us d.links
  pub backed : run.good ≡ true → AllByRecursion (IsBackedLink J d.own.mon_client.name.kind) d.links

abbrev pub EntityOk : WholeRun → Uses → List Entry → EntityNode → Type 0
EntityOk run us J (OfClient c) = ClientOk run us c
EntityOk run us J (OfDaemon d) = DaemonOk run us J d.node

abbrev pub EntitiesOk : WholeRun → Uses → List Entry → List EntityNode → Type 0
EntitiesOk run us J es = AllByRecursion (EntityOk run us J) es

pub record NodesOk (run : WholeRun) (nodes : Nodes) (us : Uses) (J : List Entry) : Type 0 where
  pub monitor : MonitorOk us J nodes.monitor
  pub entities : EntitiesOk run us J nodes.entities

entity-grows : (run : WholeRun) (us vs : Uses) (J K : List Entry) (e : EntityNode) → Grows us vs → Within J K → EntityOk run us J e → EntityOk run vs K e
entity-grows run us vs J K (OfClient c) f w h = client-grows run us vs c f h
entity-grows run us vs J K (OfDaemon d) f w h =
    let n : NodeName = node.Entity d.node.own.mon_client.name in
    record {
      known = known-grows run us vs d.node.own.mon_client.name d.node.own.mon_client.secret d.node.own.mon_client.view f h.known;
      of = h.of;
      links = daemon_links-grow run n us vs d.node.links f h.links;
      backed = λ known. all-map (IsBackedLink J d.node.own.mon_client.name.kind) (IsBackedLink K d.node.own.mon_client.name.kind)
          (λ l b x has. backing-grows J K d.node.own.mon_client.name.kind x w (b x has)) d.node.links (h.backed known);
    }

entities-grow : (run : WholeRun) (us vs : Uses) (J K : List Entry) (es : List EntityNode) → Grows us vs → Within J K → EntitiesOk run us J es → EntitiesOk run vs K es
entities-grow run us vs J K es f w h = all-map (EntityOk run us J) (EntityOk run vs K) (λ e ok. entity-grows run us vs J K e f w ok) es h

-- replacing an entity by a good one leaves all good
replaced : (run : WholeRun) (us : Uses) (J : List Entry) (name : Name) (entity : EntityNode) (es : List EntityNode) → EntityOk run us J entity → EntitiesOk run us J es
    → EntitiesOk run us J (map (λ e. if is_of name e then entity else e) es)
replaced run us J name entity [] ok h = tt
replaced run us J name entity (e ∷ es) ok h = (by_test (is_of name e), replaced run us J name entity es ok h.1)
  where
    by_test : (t : Bool) → EntityOk run us J (if t then entity else e)
    by_test true = ok
    by_test false = h.0

-- ---- events that may happen

-- what is so of an event of the run: what comes; the state that is saved behind it is one that was saved in the run; and its tickets are good, where that
-- is known. No daemon is told a view but by a reply
pub record Occurs (run : WholeRun) (nodes : Nodes) (h : Happening) : Type 0 where
  pub drawn : length h.draw ≡ 384
  pub looks : IsNoLook h.input
  pub comes : run.incoming_links ≡ false → IsUnvisited h.node h.input
  pub recorded : AreRecorded run (steps nodes h).nodes.monitor.own.saved
  pub good : run.good ≡ true → (t : Issued) → Contains (steps nodes h).out.entries (journal.Issued t) → t.gid < 2 ^ 64 → IsGood run t

abbrev pub AllOccur : WholeRun → Nodes → List Happening → Type 0
AllOccur run nodes [] = Unit {0}
AllOccur run nodes (h ∷ hs) = Occurs run nodes h × AllOccur run (steps nodes h).nodes hs

-- the monitor where more is known of keys, and nothing more is issued
monitor-moved : (us vs : Uses) (J K : List Entry) (m : MonitorNode) → Grows us vs → ((s : Issued) → Contains K (journal.Issued s) → Contains J (journal.Issued s)) → MonitorOk us J m
    → MonitorOk vs K m
monitor-moved us vs J K m f quiet h =
    let more : OwnOk m.own.saved_before h.owner vs J m.own = own-grows m.own.saved_before h.owner us vs J m.own f h.node_ok.own in
    record {
      owner = h.owner;
      node_ok = record {
        own = record {
          ring = more.ring;
          present = more.present;
          saved = more.saved;
          before_is = more.before_is;
          grown = more.grown;
          below = λ s has. more.below s (quiet s has);
          rises = more.rises;
          owned = λ s has. more.owned s (quiet s has);
          unowned = more.unowned;
        };
        links = links-grow (monitor_says m.own.saved_before h.owner) us vs m.links f h.node_ok.links;
      };
    }

pub entered-append : (J js : List Entry) → entered J js ≡ J ++ js
entered-append J [] = sym (append-nil J)
entered-append J (j ∷ js) = entered-append (J ++ j ∷ []) js ∙ append_assoc J (j ∷ []) js

module _ (run : WholeRun) (whole : List Logged) (us : Uses) (log : List Logged) (J : List Entry) (nodes : Nodes) where
  abbrev AfterStepped : NodeName → ℕ → Stepped → Type 0
  AfterStepped n line s = After run whole n line us log J s.out.seals s.out.entries (NodesOk run s.nodes)

  -- nothing happens
  nothing-after : (n : NodeName) (line : ℕ) → Inv run whole us log J → NodesOk run nodes us J → AfterStepped n line (record { nodes = nodes; out = nothing; failed = false })
  nothing-after n line i ok = record { uses = us; grows = same_uses us; inv = i; laws = tt; good = ok }

  -- ---- an entity

  daemon-before : (d : DaemonNode) (name : Name) → DaemonOk run us J d → node.Entity name ≡ node.Entity d.own.mon_client.name → DaemonHas run J (node.Entity name) d us J
  daemon-before d name known here = record {
    own = record { known = known.known; quiet = λ s has. has; count = refl };
    links = subst (λ (n : NodeName). LinksHave run n us d.links) (sym here) known.links;
  }

  -- the nodes behind the step of an entity
  nodes-behind : (name : Name) (entity : EntityNode) (vs : Uses) (js : List Entry) → Grows us vs → ((s : Issued) → Contains (entered J js) (journal.Issued s) → Contains J (journal.Issued s))
      → NodesOk run nodes us J → EntityOk run vs (entered J js) entity → NodesOk run (with_entity nodes name entity) vs (entered J js)
  nodes-behind name entity vs js f quiet ok behind_it = record {
    monitor = monitor-moved us vs J (entered J js) nodes.monitor f quiet ok.monitor;
    entities = replaced run vs (entered J js) name entity nodes.entities behind_it (entities-grow run us vs J (entered J js) nodes.entities f (within-all J js) ok.entities);
  }

  client-after : (h : Happening) (name : Name) (c : WholeClientNode) → ClientOk run us c → c.own.mon_client.name ≡ name → Inv run whole us log J → NodesOk run nodes us J
      → (run.incoming_links ≡ false → IsNoCall h.input)
      → AreGranted run.leaked whole (node.Entity name) h.line log (whole_client_rule c h.input h.reading h.draw).out.seals → AfterStepped (node.Entity name) h.line (entity_steps nodes h name (Some (OfClient c)))
  client-after h name c known named i ok comes g =
      let o : Outcome WholeClientNode = whole_client_rule c h.input h.reading h.draw in
      let b = client-steps run whole name h.line us log J c h.input h.reading h.draw known named i comes g in
      let a = b.after in
      record {
        uses = a.uses;
        grows = a.grows;
        inv = a.inv;
        laws = a.laws;
        good = nodes-behind name (OfClient o.state) a.uses o.out.entries a.grows a.good.own.mon_client.quiet ok b.ok;
      }

  daemon-after_step : (h : Happening) (name : Name) (d : DaemonState) → DaemonOk run us J d.node → d.node.own.mon_client.name ≡ name → Inv run whole us log J → NodesOk run nodes us J
      → length h.draw ≡ 384 → IsNoLook h.input → (run.incoming_links ≡ false → IsNoIncoming h.input) → AllGood run J
      → AreGranted run.leaked whole (node.Entity name) h.line log (daemon_step nodes.handlers d h.input h.reading h.draw).out.seals
      → AfterStepped (node.Entity name) h.line (entity_steps nodes h name (Some (OfDaemon d)))
  daemon-after_step h name d known named i ok drawn looks comes good g =
      let here : node.Entity name ≡ node.Entity d.node.own.mon_client.name = ap (λ (m : Name). node.Entity m) (sym named) in
      let o : Outcome DaemonState = daemon_step nodes.handlers d h.input h.reading h.draw in
      let b = daemon-after run whole (node.Entity name) h.line us log J nodes.handlers d h.reading h.draw drawn h.input (record {
        inv = i;
        ok = daemon-before d.node name known here;
        here = here;
        of = known.of;
        backed = known.backed;
        good = good;
        comes = comes;
        looks = looks;
      }) g in
      let a = b.after in
      let kept : o.state.node.own.mon_client.name ≡ d.node.own.mon_client.name = daemon-named nodes.handlers d h.input h.reading h.draw in
      let still : node.Entity name ≡ node.Entity o.state.node.own.mon_client.name = here ∙ ap (λ (m : Name). node.Entity m) (sym kept) in
      let behind_it : DaemonOk run a.uses (entered J o.out.entries) o.state.node = record {
        known = a.good.own.known;
        of = subst (λ (m : Name). is_daemon_type m.kind ≡ true) (sym kept) known.of;
        links = subst (λ (n : NodeName). LinksHave run n a.uses o.state.node.links) still a.good.links;
        backed = λ known. subst (λ (m : Name). AllByRecursion (IsBackedLink (entered J o.out.entries) m.kind) o.state.node.links) (sym kept) (b.backed known);
      } in
      record {
        uses = a.uses;
        grows = a.grows;
        inv = a.inv;
        laws = a.laws;
        good = nodes-behind name (OfDaemon o.state) a.uses o.out.entries a.grows a.good.own.quiet ok behind_it;
      }

  entity-after : (h : Happening) (name : Name) (found : Option EntityNode) → entity_of name nodes ≡ found → Inv run whole us log J → NodesOk run nodes us J → length h.draw ≡ 384
      → IsNoLook h.input → (run.incoming_links ≡ false → IsUnvisited (node.Entity name) h.input) → AllGood run J
      → AreGranted run.leaked whole (node.Entity name) h.line log (entity_steps nodes h name found).out.seals → AfterStepped (node.Entity name) h.line (entity_steps nodes h name found)
  entity-after h name None is i ok drawn looks comes good g = nothing-after (node.Entity name) h.line i ok
  entity-after h name (Some (OfClient c)) is i ok drawn looks comes good g =
      client-after h name c (found_all (EntityOk run us J) (is_of name) nodes.entities (OfClient c) ok.entities is)
      (same_name_is c.own.mon_client.name name (found_passes (is_of name) nodes.entities (OfClient c) is)) i ok (λ none. unvisited-calls (node.Entity name) h.input (comes none)) g
  entity-after h name (Some (OfDaemon d)) is i ok drawn looks comes good g =
      daemon-after_step h name d (found_all (EntityOk run us J) (is_of name) nodes.entities (OfDaemon d) ok.entities is)
      (same_name_is d.node.own.mon_client.name name (found_passes (is_of name) nodes.entities (OfDaemon d) is)) i ok drawn looks (λ none. unvisited-incoming name h.input (comes none)) good g

  -- ---- the monitor

  abbrev rule : Happening → Outcome MonitorNode
  rule h = monitor_rule nodes.monitor h.input h.reading h.draw

  -- a step whose save stands, or that saves nothing
  saved-after : (h : Happening) → Inv run whole us log J → NodesOk run nodes us J → length h.draw ≡ 384 → AreRecorded run (rule h).state.own.saved
      → AreGranted run.leaked whole node.Monitor h.line log (rule h).out.seals
      → AfterStepped node.Monitor h.line (record { nodes = record nodes { monitor = (rule h).state }; out = (rule h).out; failed = false })
  saved-after h i ok drawn rec g =
      let b = monitor-after run whole node.Monitor h.line us log J nodes.monitor h.input h.reading h.draw i ok.monitor drawn rec g in
      let a = b.after in
      record {
        uses = a.uses;
        grows = a.grows;
        inv = a.inv;
        laws = a.laws;
        good = record {
          monitor = between nodes.monitor.own.saved b.owner a.uses (entered J (rule h).out.entries) (rule h).state a.good;
          entities = entities-grow run us a.uses J (entered J (rule h).out.entries) nodes.entities a.grows (within-all J (rule h).out.entries) ok.entities;
        };
      }

  -- a step whose save fails: what it would have saved is taken as saved meanwhile
  failed-after : (h : Happening) (l : LeftState) → Inv run whole us log J → NodesOk run nodes us J → length h.draw ≡ 384
      → AreGranted run.leaked whole node.Monitor h.line log (filter stays (rule h).out.seals)
      → AfterStepped node.Monitor h.line (record { nodes = record nodes { monitor = left_as l (rule h).state }; out = failed_out (rule h).out; failed = true })
  failed-after h l i ok drawn g =
      let all = thick run whole node.Monitor h.line log (rule h).out.seals g in
      let more : List (EntityType × Generation) = tagged (rule h).state.own.saved in
      let wide : WholeRun = record run { saved = more ++ run.saved } in
      let ws : Uses = record us { saved = more ++ us.saved } in
      let b = monitor-after wide whole node.Monitor h.line ws log J nodes.monitor h.input h.reading h.draw (inv-saved run whole us log J more i)
      (monitor-moved us ws J J nodes.monitor (grows-saved us (more ++ us.saved)) (λ s has. has) ok.monitor) drawn (tagged-recorded run (rule h).state.own.saved) all in
      let a = b.after in
      let K : List Entry = entered J (rule h).out.entries in
      let there : Grows us a.uses = grows-from us a.uses (more ++ us.saved) a.grows in
      let vs : Uses = record a.uses { saved = us.saved } in
      let f : Grows us vs = grows-then us a.uses vs there (grows-saved a.uses us.saved) in
      record {
        uses = vs;
        grows = f;
        inv = inv-failed run whole node.Monitor h.line us a.uses (more ++ run.saved) log J K (rule h).out.seals f i a.inv;
        laws = tt;
        good = record {
          monitor = monitor-moved a.uses vs J J (left_as l (rule h).state) (grows-saved a.uses us.saved) (λ s has. has) (by_left b.owner a.uses K there (within-all J (rule h).out.entries) a.good l);
          entities = entities-grow run us vs J J nodes.entities f (within-itself J) ok.entities;
        };
      }
    where
      by_left : (who : Owner) (vs : Uses) (K : List Entry) → Grows us vs → Within J K → NodeOk (monitor_says nodes.monitor.own.saved who) (rule h).state vs K → (l : LeftState)
          → MonitorOk vs J (left_as l (rule h).state)
      by_left who vs K f w good left.Old =
          unsaved-ok nodes.monitor.own.saved who vs J K (rule h).state w good (state-grows us vs nodes.monitor.own.saved f ok.monitor.node_ok.own.saved) ok.monitor.node_ok.own.below
      by_left who vs K f w good left.New = between-less nodes.monitor.own.saved who vs J K (rule h).state w good

  monitor-steps-after : (h : Happening) (l : Option LeftState) (saved : Option KeptState) → Inv run whole us log J → NodesOk run nodes us J → length h.draw ≡ 384
      → AreRecorded run (monitor_steps nodes (rule h) l saved).nodes.monitor.own.saved
      → AreGranted run.leaked whole node.Monitor h.line log (monitor_steps nodes (rule h) l saved).out.seals → AfterStepped node.Monitor h.line (monitor_steps nodes (rule h) l saved)
  monitor-steps-after h (Some l) (Some saved) i ok drawn rec g = failed-after h l i ok drawn g
  monitor-steps-after h None saved i ok drawn rec g = saved-after h i ok drawn rec g
  monitor-steps-after h (Some l) None i ok drawn rec g = saved-after h i ok drawn rec g

  -- ---- any event

  at-node : (h : Happening) (n : NodeName) → Inv run whole us log J → NodesOk run nodes us J → length h.draw ≡ 384 → IsNoLook h.input → (run.incoming_links ≡ false → IsUnvisited n h.input) → AllGood run J
      → AreRecorded run (steps_of nodes h n).nodes.monitor.own.saved → AreGranted run.leaked whole n h.line log (steps_of nodes h n).out.seals → AfterStepped n h.line (steps_of nodes h n)
  at-node h node.Monitor i ok drawn looks comes good rec g = monitor-steps-after h h.left (rule h).out.save i ok drawn rec g
  at-node h (node.Entity name) i ok drawn looks comes good rec g = entity-after h name (entity_of name nodes) refl i ok drawn looks comes good g

  pub event-after : (h : Happening) → Inv run whole us log J → NodesOk run nodes us J → AllGood run J → Occurs run nodes h
      → AreGranted run.leaked whole h.node h.line log (steps nodes h).out.seals → AfterStepped h.node h.line (steps nodes h)
  event-after h i ok good m g = at-node h h.node i ok m.drawn m.looks m.comes good m.recorded g

-- all tickets are good behind an event, where each global id that was issued is a number of eight bytes
pub good-behind : (run : WholeRun) (nodes : Nodes) (us : Uses) (J js : List Entry) → NodesOk run nodes us (entered J js) → AllGood run J
    → (run.good ≡ true → (t : Issued) → Contains js (journal.Issued t) → t.gid < 2 ^ 64 → IsGood run t) → AllGood run (entered J js)
good-behind run nodes us J js ok before here known t has =
    by_place (Contains-append_cases J js (journal.Issued t) (subst (λ (l : List Entry). Contains l (journal.Issued t)) (entered-append J js) has))
  where
    by_place : Contains J (journal.Issued t) ⊎ Contains js (journal.Issued t) → IsGood run t
    by_place (inl was) = before known t was
    by_place (inr now) =
        let below : t.gid < nodes.monitor.own.saved.next_gid = ok.monitor.node_ok.own.below t has in
        let numbered : nodes.monitor.own.saved.next_gid < 2 ^ 64 = ok.monitor.node_ok.own.saved.numbered in
        here known t now (omega arith)

-- ---- every list of events

-- the entries of an event are those of its effects
pub entries-by : (h : Happening) (es : List Entry) → map (λ (x : Entered). x.entry) (map (λ (e : Entry). record { line = h.line; reading = h.reading; entry = e }) es) ≡ es
entries-by h [] = refl
entries-by h (e ∷ es) = ap (λ (l : List Entry). e ∷ l) (entries-by h es)

pub events-law : (run : WholeRun) (whole : List Logged) (hs : List Happening) (nodes : Nodes) (us : Uses) (log : List Logged) (J : List Entry) → Inv run whole us log J
    → NodesOk run nodes us J → AllGood run J → AllOccur run nodes hs → EachOnto (IsGranted run.leaked whole) log (seals_from nodes hs)
    → EachBehind (EntryLaw run) J (map (λ (x : Entered). x.entry) (journal_from nodes hs))
events-law run whole [] nodes us log J i ok good m g = tt
events-law run whole (h ∷ hs) nodes us log J i ok good m g =
    let s : Stepped = steps nodes h in
    let gs = granted-step run.leaked whole h.node h.line log s.out.seals (seals_from s.nodes hs) g in
    let a = event-after run whole us log J nodes h i ok good m.0 gs.0 in
    let rest = events-law run whole hs s.nodes a.uses (behind h.node h.line s.out.seals log) (entered J s.out.entries) a.inv a.good (good-behind run s.nodes a.uses J s.out.entries a.good good m.0.good) m.1 gs.1 in
    let later : List Entry = map (λ (x : Entered). x.entry) (journal_from s.nodes hs) in
    let both : EachBehind (EntryLaw run) J (s.out.entries ++ later) = behind-append (EntryLaw run) J s.out.entries later a.laws rest in
    let same : map (λ (x : Entered). x.entry) (entered_by h s.out ++ journal_from s.nodes hs) ≡ s.out.entries ++ later =
    map-append (λ (x : Entered). x.entry) (entered_by h s.out) (journal_from s.nodes hs) ∙ ap (λ (l : List Entry). l ++ later) (entries-by h s.out.entries) in
    subst (λ (l : List Entry). EachBehind (EntryLaw run) J l) (sym same) both
