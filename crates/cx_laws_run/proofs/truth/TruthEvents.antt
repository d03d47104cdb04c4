-- Behind each event of a run all that was said and given on links to daemons is known, and what clients are told then is true; so it is of every list of events.
use Rattle.std.proofs.Common.{◌≡◌, ℕ, List, [], ◌∷◌, ◌++◌, map, Option, Some, None, inl, inr, ◌⊎◌, refl, sym, ap, ◌∙◌, subst}
use Rattle.std.specs.List.{AllByRecursion}
use Rattle.std.specs.Prelude.{if◌then◌else◌}
use Rattle.cx_base.proofs.Names.{same_name_is}
use Rattle.cx_base.specs.Names.{Name}
use Rattle.cx_base.specs.declared.kinds.EntityType.{EntityType}
use Rattle.cx_base.specs.declared.nodes.NodeName.{NodeName}
use Rattle.cx_base.specs.declared.nodes.NodeName.TheVariants as node
use Rattle.cx_journal.specs.Behind.{EachBehind}
use Rattle.cx_journal.specs.declared.entries.Entry.{Entry}
use Rattle.cx_journal.specs.declared.entries.Entry.TheVariants as journal
use Rattle.cx_laws_run.specs.cx_laws_tickets.proofs.authorize.Backing.{AllGood}
use Rattle.cx_laws_run.specs.cx_laws_keys.proofs.keys.Journal.{After, entered}
use Rattle.cx_laws_run.specs.cx_laws_keys.proofs.keys.Known.{Inv, IsAllowed, SignedAt}
use Rattle.cx_laws_run.specs.cx_laws_keys.proofs.keys.Lists.{all-map, found_all, found_passes, map-append}
use Rattle.cx_laws_run.specs.cx_laws_keys.proofs.keys.Premises.{AreGranted, IsGranted, behind, granted-step}
use Rattle.cx_laws_run.specs.cx_laws_keys.proofs.keys.Uses.{Grows, Means, Ticketed, Use, Uses, WholeRun}
use Rattle.cx_laws_run.specs.cx_laws_links.proofs.links.Known.{Told}
use Rattle.cx_laws_run.specs.cx_laws_links.proofs.links.Written.{all-behind}
use Rattle.cx_laws_run.specs.cx_laws_sessions.proofs.queues.Runs.{AllQueues, node-run}
use Rattle.cx_laws_run.specs.cx_laws_sessions.proofs.session.Clients.{IsMute}
use Rattle.cx_laws_run.specs.cx_laws_sessions.proofs.session.Monitors.{monitor-mute}
use Rattle.cx_laws_run.proofs.run.Events.{AllOccur, NodesOk, entered-append, entries-by, event-after, good-behind}
use Rattle.cx_laws_run.proofs.run.Journals.{behind-append}
use Rattle.cx_laws_run.specs.run.Laws.{AreBytes}
use Rattle.cx_words.specs.declared.choices.LeftState.{LeftState}
use Rattle.cx_rotate.specs.declared.states.KeptState.{KeptState}
use Rattle.cx_laws_run.specs.cx_rules.specs.Monitor.{MonitorNode}
use Rattle.cx_laws_run.specs.cx_rules.specs.MonitorRule.{monitor_rule}
use Rattle.cx_laws_run.specs.cx_rules.specs.Rows.{Outcome}
use Rattle.cx_laws_run.specs.cx_rules_session.specs.ClientRule.{WholeClientNode, whole_client_rule}
use Rattle.cx_laws_run.specs.cx_rules_session.specs.DaemonRule.{DaemonState, daemon_step}
use Rattle.cx_laws_run.specs.cx_run.proofs.DaemonNamed.{daemon-named}
use Rattle.cx_laws_run.specs.cx_run.specs.Happenings.{Entered, EntityNode, Happening, Nodes, OfClient, OfDaemon, Stepped, entered_by, entity_of, entity_steps, is_of, journal_from, monitor_steps, seals_from, steps, steps_of}
use Rattle.cx_steps.specs.Onto.{EachOnto}
use Rattle.cx_steps.specs.declared.seals.Logged.{Logged}
use Rattle.cx_steps.specs.declared.seals.SealEntry.{SealEntry}
use Rattle.cx_steps.specs.declared.seals.SealEntry.TheVariants as entry
use Rattle.cx_laws_run.specs.cx_laws_tickets.proofs.fetch.SameChallenge.{TellsReply}
use Rattle.cx_laws_run.specs.cx_laws_links.proofs.answers.AllGiven.{AllGiven}
use Rattle.cx_laws_run.specs.cx_laws_links.proofs.answers.CallHears.{EndsSo}
use Rattle.cx_laws_run.specs.cx_laws_links.proofs.answers.Given.{Given}
use Rattle.cx_laws_run.specs.cx_laws_links.proofs.answers.Known.{continues}
use Rattle.cx_laws_run.specs.cx_laws_links.proofs.answers.SameService.{HearsService}
use Rattle.cx_laws_run.specs.cx_laws_links.proofs.answers.Signed.{signed-behind}
use Rattle.cx_laws_run.proofs.sent.Events.{Comes, RunKnown, client-ready, client-run, daemon-ready, daemon-run, monitor-run, silent-run}
use Rattle.cx_laws_run.proofs.sent.OtherNodes.{all-replaced}
use Rattle.cx_laws_run.proofs.sent.State.{ClientBehind, DaemonBehind}
use Rattle.cx_laws_run.proofs.sent.Steps.{ClientReady, ClientStep, DaemonReady, DaemonStep}
use Rattle.cx_laws_run.specs.sent.Fitting.{AreFit}
use Rattle.cx_laws_run.proofs.truth.ClientNames.{client-names}
use Rattle.cx_laws_run.proofs.truth.ClientSays.{client-truth}
use Rattle.cx_laws_run.proofs.truth.DaemonNames.{daemon-names}
use Rattle.cx_laws_run.proofs.truth.DaemonSays.{DaemonTruth, Never, daemon-truth}
use Rattle.cx_laws_run.proofs.truth.IncomingLinksStay.{all-still, same-told}
use Rattle.cx_laws_run.proofs.truth.Named.{AllNamed, ClientNamed, EntityNamed, entity-grows}
use Rattle.cx_laws_run.proofs.truth.OnceHandled.{HandledOnce}
use Rattle.cx_laws_run.proofs.truth.Signing.{AllSigned}
use Rattle.cx_laws_run.proofs.truth.OtherGiven.{daemon-entities, monitor-gives, silent-entities}
use Rattle.cx_laws_run.proofs.truth.OtherHears.{client-entities}
use Rattle.cx_laws_run.proofs.truth.State.{AllTrue, ClientHears, ClientTruth, EntitiesHear, EntityHears, GivesNothing, LinksGiven, TruthLaw}
use Rattle.cx_laws_run.proofs.truth.Still.{bound-stays, none-true, read-still}

-- ---- what is known between two events

pub record BothKnown (run : WholeRun) (us : Uses) (told : Told) (given : List (List ℕ × Given)) (reads : List (List ℕ × ℕ)) (log : List Logged) (J : List Entry) (entities : List EntityNode) : Type 0 where
  pub known : RunKnown run us told log J entities
  pub all : AllTrue run us told given reads log J
  pub hears : EntitiesHear run us told given reads log entities
  pub named : AllNamed us log entities

-- behind a step of a node: so it is, and what is entered is true
pub record TruthBehind (run : WholeRun) (vs : Uses) (log : List Logged) (n : NodeName) (line : ℕ) (J : List Entry) (s : Stepped) : Type 0 where
  pub next : Told
  pub given : List (List ℕ × Given)
  pub reads : List (List ℕ × ℕ)
  pub both : BothKnown run vs next given reads (behind n line s.out.seals log) (entered J s.out.entries) s.nodes.entities
  pub told_so : EachBehind (TruthLaw run) J s.out.entries

-- ---- nodes that have no sessions

entity-apart : (name : Name) → node.Entity name ≡ node.Monitor → ⊥
entity-apart name e = cc

-- the monitor enters no answer
mute-none : (es : List Entry) → AllByRecursion (IsMute node.Monitor) es → AllByRecursion (EndsSo Never) es
mute-none [] h = tt
mute-none (e ∷ es) h = (by_entry e h.0, mute-none es h.1)
  where
    by_entry : (x : Entry) → IsMute node.Monitor x → EndsSo Never x
    by_entry (journal.Answered x) m = absurd (entity-apart x.client m)
    by_entry _ m = tt

-- the monitor signs nothing under the session key of a ticket for a service
pub monitor-signs : (vs : Uses) (K : List Entry) (one : (k : List ℕ) (u v : Use) → Means vs k u → Means vs k v → u ≡ v) (es : List SealEntry) → AllByRecursion (IsAllowed vs K node.Monitor) es → AllSigned vs es
monitor-signs vs K one [] h = tt
monitor-signs vs K one (entry.Signed mark ∷ es) h =
    (λ name service m client. never name service (subst (λ (u : Use). SignedAt node.Monitor u) (one mark.key h.0.0 (Ticketed name service) h.0.1 m) h.0.2), monitor-signs vs K one es h.1)
  where
    apart : (name : Name) → node.Monitor ≡ node.Entity name → ⊥
    apart name e = cc

    never : (name : Name) (service : EntityType) → SignedAt node.Monitor (Ticketed name service) → HearsService service mark.content ⊎ TellsReply mark.content
    never name service (inl own) = absurd (apart name own)
    never name service (inr kind) = absurd kind
monitor-signs vs K one (entry.Sealed mark ∷ es) h = (tt, monitor-signs vs K one es h.1)
monitor-signs vs K one (entry.Opened mark ∷ es) h = (tt, monitor-signs vs K one es h.1)
monitor-signs vs K one (entry.Checked mark ∷ es) h = (tt, monitor-signs vs K one es h.1)
monitor-signs vs K one (entry.Drawn mark ∷ es) h = (tt, monitor-signs vs K one es h.1)

monitor-leaves : (nodes : Nodes) (o : Outcome MonitorNode) (l : Option LeftState) (saved : Option KeptState) → (monitor_steps nodes o l saved).nodes.entities ≡ nodes.entities
monitor-leaves nodes o (Some l) (Some saved) = refl
monitor-leaves nodes o None saved = refl
monitor-leaves nodes o (Some l) None = refl

-- ---- an event

each-first : (P : List Entry → Entry → Type 0) (J xs ys : List Entry) → EachBehind P J (xs ++ ys) → EachBehind P J xs
each-first P J [] ys h = tt
each-first P J (x ∷ xs) ys h = (h.0, each-first P (J ++ x ∷ []) xs ys h.1)

pub each-rest : (P : List Entry → Entry → Type 0) (J xs ys : List Entry) → EachBehind P J (xs ++ ys) → EachBehind P (entered J xs) ys
each-rest P J [] ys h = h
each-rest P J (x ∷ xs) ys h = each-rest P (J ++ x ∷ []) xs ys h.1

module _ (run : WholeRun) (whole : List Logged) (client_step : ClientStep run whole) (daemon_step_of : DaemonStep run whole) where
  module _ (us : Uses) (told : Told) (given : List (List ℕ × Given)) (reads : List (List ℕ × ℕ)) (log : List Logged) (J : List Entry) (nodes : Nodes) (i : Inv run whole us log J) (ok : NodesOk run nodes us J)
      (good : AllGood run J) (queues : AllQueues J nodes.entities) (both : BothKnown run us told given reads log J nodes.entities) where
    abbrev AfterStepped : NodeName → ℕ → Stepped → Type 0
    AfterStepped n line s = After run whole n line us log J s.out.seals s.out.entries (NodesOk run s.nodes)

    -- behind a step that signs this, and changes no entity but this one
    named-behind : (n : NodeName) (line : ℕ) (vs : Uses) → ((k : List ℕ) (u v : Use) → Means vs k u → Means vs k v → u ≡ v) → Grows us vs → (es : List SealEntry) → AllSigned vs es → (entities : List EntityNode)
        → AllByRecursion (EntityNamed vs) entities → AllNamed vs (behind n line es log) entities
    named-behind n line vs one f es signs entities all =
        record { signed = signed-behind us vs one f J run whole n line es log i both.named.signed signs; all = all }

    named-others : (vs : Uses) → Grows us vs → (name : Name) (entity : EntityNode) → EntityNamed vs entity
        → AllByRecursion (EntityNamed vs) (map (λ (e : EntityNode). if is_of name e then entity else e) nodes.entities)
    named-others vs f name entity is = all-replaced (EntityNamed us) (EntityNamed vs) name entity is (λ e apart h. entity-grows us vs f e h) nodes.entities both.named.all

    -- where nothing is given or signed, and no entity changes
    silent-true : (n : NodeName) (line : ℕ) (s : Stepped) → (a : AfterStepped n line s) → s.nodes.entities ≡ nodes.entities → AllByRecursion (EndsSo Never) s.out.entries → GivesNothing a.uses s.out.seals
        → AllSigned a.uses s.out.seals
        → RunKnown run a.uses told (behind n line s.out.seals log) (entered J s.out.entries) s.nodes.entities → TruthBehind run a.uses log n line J s
    silent-true n line s a same none quiet signs known =
        let later : List Logged = behind n line s.out.seals log in
        let K : List Entry = entered J s.out.entries in
        let given_all : AllGiven run a.uses told given later K =
        all-still run whole us a.uses told told given log J K n line s.out.seals a.inv.one a.grows (continues J s.out.entries) i (same-told told) quiet both.all.all in
        record {
          next = told;
          given = given;
          reads = reads;
          both = record {
            known = known;
            all = record {
              all = given_all;
              read = read-still run us a.uses given reads J s.out.entries a.grows none both.all.read;
              bound = bound-stays us a.uses told told reads a.grows (λ nonce whose second key b. b) both.all.bound;
            };
            hears = subst (λ (es : List EntityNode). EntitiesHear run a.uses told given reads later es) (sym same)
                (silent-entities run us a.uses a.grows told given reads log n line s.out.seals quiet nodes.entities both.hears);
            named = named-behind n line a.uses a.inv.one a.grows s.out.seals signs s.nodes.entities
                (subst (λ (es : List EntityNode). AllByRecursion (EntityNamed a.uses) es) (sym same)
                (all-map (EntityNamed us) (EntityNamed a.uses) (entity-grows us a.uses a.grows) nodes.entities both.named.all));
          };
          told_so = none-true run J s.out.entries none;
        }

    monitor-true : (line : ℕ) (s : Stepped) → (a : AfterStepped node.Monitor line s) → s.nodes.entities ≡ nodes.entities → AllByRecursion (IsMute node.Monitor) s.out.entries
        → TruthBehind run a.uses log node.Monitor line J s
    monitor-true line s a same mute =
        let K : List Entry = entered J s.out.entries in
        let allowed : AllByRecursion (IsAllowed a.uses K node.Monitor) s.out.seals =
        (all-behind (λ (at : Logged). IsAllowed a.uses K at.node at.entry) node.Monitor line s.out.seals log a.inv.allowed).0 in
        silent-true node.Monitor line s a same (mute-none s.out.entries mute) (monitor-gives a.uses K a.inv.one a.inv.placed s.out.seals allowed)
        (monitor-signs a.uses K a.inv.one s.out.seals allowed)
        (monitor-run run whole client_step daemon_step_of us told log J nodes i ok good queues both.known line s a same mute)

    client-true : (h : Happening) (name : Name) (c : WholeClientNode) → entity_of name nodes ≡ Some (OfClient c) → Comes run (node.Entity name) h
        → AreGranted run.leaked whole (node.Entity name) h.line log (whole_client_rule c h.input h.reading h.draw).out.seals
        → (a : AfterStepped (node.Entity name) h.line (entity_steps nodes h name (Some (OfClient c))))
        → TruthBehind run a.uses log (node.Entity name) h.line J (entity_steps nodes h name (Some (OfClient c)))
    client-true h name c found comes g a =
        let o : Outcome WholeClientNode = whole_client_rule c h.input h.reading h.draw in
        let K : List Entry = entered J o.out.entries in
        let r : ClientReady run whole us a.uses told log h.line J name c h.input h.draw o =
        client-ready run whole client_step daemon_step_of us told log J nodes i ok good queues both.known h name c found comes g a in
        let b : ClientBehind run us a.uses told log h.line K name c o = client_step us a.uses told log h.line J name c h.input h.reading h.draw r in
        let mine : ClientHears run told given reads c = found_all (EntityHears run us told given reads log) (is_of name) nodes.entities (OfClient c) both.hears found in
        let links : ClientNamed us c = found_all (EntityNamed us) (is_of name) nodes.entities (OfClient c) both.named.all found in
        let t : ClientTruth run us a.uses told b.next given reads log h.line J K name b.number o =
        client-truth run whole us a.uses told given reads log h.line J name c h.input h.reading h.draw r both.all mine links.links b in
        let names = client-names run whole us a.uses told log h.line J name c h.input h.reading h.draw r both.named.signed links in
        record {
          next = b.next;
          given = given;
          reads = reads ++ t.more;
          both = record {
            known = client-run run whole client_step daemon_step_of us told log J nodes i ok good queues both.known h name c found a b;
            all = t.known;
            hears = client-entities run us a.uses i.one a.grows told given reads log h.line J K name c o b t nodes.entities both.known.all both.hears;
            named = named-behind (node.Entity name) h.line a.uses a.inv.one a.grows o.out.seals names.0 (entity_steps nodes h name (Some (OfClient c))).nodes.entities
                (named-others a.uses a.grows name (OfClient o.state) names.1);
          };
          told_so = t.told_so;
        }

    daemon-true : (h : Happening) (name : Name) (d : DaemonState) → entity_of name nodes ≡ Some (OfDaemon d) → Comes run (node.Entity name) h
        → AreGranted run.leaked whole (node.Entity name) h.line log (daemon_step nodes.handlers d h.input h.reading h.draw).out.seals
        → (a : AfterStepped (node.Entity name) h.line (entity_steps nodes h name (Some (OfDaemon d))))
        → EachBehind (HandledOnce run) J (daemon_step nodes.handlers d h.input h.reading h.draw).out.entries
        → TruthBehind run a.uses log (node.Entity name) h.line J (entity_steps nodes h name (Some (OfDaemon d)))
    daemon-true h name d found comes g a once =
        let o : Outcome DaemonState = daemon_step nodes.handlers d h.input h.reading h.draw in
        let K : List Entry = entered J o.out.entries in
        let named : d.node.own.mon_client.name ≡ name = same_name_is d.node.own.mon_client.name name (found_passes (is_of name) nodes.entities (OfDaemon d) found) in
        let still : o.state.node.own.mon_client.name ≡ name = daemon-named nodes.handlers d h.input h.reading h.draw ∙ named in
        let r : DaemonReady run whole us a.uses told log h.line J name d h.input h.draw o =
        daemon-ready run whole client_step daemon_step_of us told log J nodes i ok good queues both.known h name d found comes g a in
        let b : DaemonBehind run a.uses told log h.line J K name o = daemon_step_of us a.uses told log h.line J name nodes.handlers d h.input h.reading h.draw r in
        let mine : LinksGiven run us told given log d.node.own.mon_client.name (node.Entity d.node.own.mon_client.name) d.node.links =
        found_all (EntityHears run us told given reads log) (is_of name) nodes.entities (OfDaemon d) both.hears found in
        let links : LinksGiven run us told given log name (node.Entity name) d.node.links = subst (λ (m : Name). LinksGiven run us told given log m (node.Entity m) d.node.links) named mine in
        let t : DaemonTruth run a.uses (record told { joins = b.joins }) given reads log h.line J K name o =
        daemon-truth run whole us a.uses told given reads log h.line J nodes.handlers d h.input h.reading h.draw name named r both.all links once b.joins in
        let names = daemon-names run whole us a.uses told log h.line J name nodes.handlers d h.input h.reading h.draw r
        (found_all (EntityNamed us) (is_of name) nodes.entities (OfDaemon d) both.named.all found) in
        record {
          next = record told { joins = b.joins };
          given = given ++ t.more;
          reads = reads;
          both = record {
            known = daemon-run run whole client_step daemon_step_of us told log J nodes i ok good queues both.known h name d found a b;
            all = t.known;
            hears = daemon-entities run us a.uses a.inv.one a.grows told b.joins given reads log h.line J K name o t still nodes.entities both.hears;
            named = named-behind (node.Entity name) h.line a.uses a.inv.one a.grows o.out.seals names.0 (entity_steps nodes h name (Some (OfDaemon d))).nodes.entities
                (named-others a.uses a.grows name (OfDaemon o.state) names.1);
          };
          told_so = t.told_so;
        }

    entity-true : (h : Happening) (name : Name) (found : Option EntityNode) → entity_of name nodes ≡ found → Comes run (node.Entity name) h
        → AreGranted run.leaked whole (node.Entity name) h.line log (entity_steps nodes h name found).out.seals → (a : AfterStepped (node.Entity name) h.line (entity_steps nodes h name found))
        → EachBehind (HandledOnce run) J (entity_steps nodes h name found).out.entries → TruthBehind run a.uses log (node.Entity name) h.line J (entity_steps nodes h name found)
    entity-true h name None is comes g a once =
        silent-true (node.Entity name) h.line (entity_steps nodes h name None) a refl tt (λ key whose tie is. refl) tt
        (silent-run run whole client_step daemon_step_of us told log J nodes i ok good queues both.known (node.Entity name) h.line (entity_steps nodes h name None) a refl tt
        (λ daemon. record { has = λ e has. has }) (λ key whose tie is. refl))
    entity-true h name (Some (OfClient c)) is comes g a once = client-true h name c is comes g a
    entity-true h name (Some (OfDaemon d)) is comes g a once = daemon-true h name d is comes g a once

    at-node : (h : Happening) (n : NodeName) → Comes run n h → AreGranted run.leaked whole n h.line log (steps_of nodes h n).out.seals → (a : AfterStepped n h.line (steps_of nodes h n))
        → EachBehind (HandledOnce run) J (steps_of nodes h n).out.entries → TruthBehind run a.uses log n h.line J (steps_of nodes h n)
    at-node h node.Monitor comes g a once =
        let o : Outcome MonitorNode = monitor_rule nodes.monitor h.input h.reading h.draw in
        monitor-true h.line (monitor_steps nodes o h.left o.out.save) a (monitor-leaves nodes o h.left o.out.save) (monitor-mute nodes h.input h.reading h.draw h.left)
    at-node h (node.Entity name) comes g a once = entity-true h name (entity_of name nodes) refl comes g a once

    pub event-true : (h : Happening) → Comes run h.node h → AreGranted run.leaked whole h.node h.line log (steps nodes h).out.seals → (a : AfterStepped h.node h.line (steps nodes h))
        → EachBehind (HandledOnce run) J (steps nodes h).out.entries → TruthBehind run a.uses log h.node h.line J (steps nodes h)
    event-true h comes g a once = at-node h h.node comes g a once

  -- ---- every list of events

  pub events-true : (hs : List Happening) (nodes : Nodes) (us : Uses) (told : Told) (given : List (List ℕ × Given)) (reads : List (List ℕ × ℕ)) (log : List Logged) (J : List Entry) → Inv run whole us log J
      → NodesOk run nodes us J → AllGood run J → AllQueues J nodes.entities → BothKnown run us told given reads log J nodes.entities → AllOccur run nodes hs
      → AllByRecursion (λ (h : Happening). AreBytes h.draw) hs → AreFit hs → EachOnto (IsGranted run.leaked whole) log (seals_from nodes hs)
      → EachBehind (HandledOnce run) J (map (λ (x : Entered). x.entry) (journal_from nodes hs)) → EachBehind (TruthLaw run) J (map (λ (x : Entered). x.entry) (journal_from nodes hs))
  events-true [] nodes us told given reads log J i ok good queues both m bytes fits g once = tt
  events-true (h ∷ hs) nodes us told given reads log J i ok good queues both m bytes fits g once =
      let s : Stepped = steps nodes h in
      let later : List Entry = map (λ (x : Entered). x.entry) (journal_from s.nodes hs) in
      let same : map (λ (x : Entered). x.entry) (entered_by h s.out ++ journal_from s.nodes hs) ≡ s.out.entries ++ later =
      map-append (λ (x : Entered). x.entry) (entered_by h s.out) (journal_from s.nodes hs) ∙ ap (λ (l : List Entry). l ++ later) (entries-by h s.out.entries) in
      let once_all : EachBehind (HandledOnce run) J (s.out.entries ++ later) = subst (λ (l : List Entry). EachBehind (HandledOnce run) J l) same once in
      let gs = granted-step run.leaked whole h.node h.line log s.out.seals (seals_from s.nodes hs) g in
      let a = event-after run whole us log J nodes h i ok good m.0 gs.0 in
      let b : TruthBehind run a.uses log h.node h.line J s = event-true us told given reads log J nodes i ok good queues both h
      (record { drawn = m.0.drawn; bytes = bytes.0; fits = fits.0; looks = m.0.looks; comes = m.0.comes }) gs.0 a (each-first (HandledOnce run) J s.out.entries later once_all) in
      let queued : AllQueues (entered J s.out.entries) s.nodes.entities =
      subst (λ (l : List Entry). AllQueues l s.nodes.entities) (sym (entered-append J s.out.entries)) (node-run J nodes h h.node queues).queues in
      let rest : EachBehind (TruthLaw run) (entered J s.out.entries) later = events-true hs s.nodes a.uses b.next b.given b.reads (behind h.node h.line s.out.seals log) (entered J s.out.entries) a.inv a.good
      (good-behind run s.nodes a.uses J s.out.entries a.good good m.0.good) queued b.both m.1 bytes.1 fits.1 gs.1 (each-rest (HandledOnce run) J s.out.entries later once_all) in
      subst (λ (l : List Entry). EachBehind (TruthLaw run) J l) (sym same) (behind-append (TruthLaw run) J s.out.entries later b.told_so rest)
