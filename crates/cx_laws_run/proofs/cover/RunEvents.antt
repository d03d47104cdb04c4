-- The events of a run, one behind the other: behind each all is known of links to the monitor; and each fetch that is entered at it is what the monitor replied to that
-- daemon behind its asking.
use Rattle.std.proofs.Common.{◌≡◌, ◌<◌, ℕ, Bool, List, [], ◌∷◌, map, Option, Some, None, refl, sym, ap, subst, arith}
use Rattle.std.specs.Prelude.{Contains, if◌then◌else◌}
use Rattle.std.specs.List.{AllByRecursion}
use Rattle.cx_base.specs.Names.{Name}
use Rattle.cx_base.specs.declared.nodes.NodeName.{NodeName}
use Rattle.cx_base.specs.declared.nodes.NodeName.TheVariants as node
use Rattle.cx_journal.specs.declared.entries.Entry.{Entry}
use Rattle.cx_journal.specs.declared.entries.Entry.TheVariants as journal
use Rattle.cx_journal.specs.declared.entries.Fetched.{Fetched}
use Rattle.cx_words.specs.declared.choices.LeftState.{LeftState}
use Rattle.cx_rotate.specs.declared.states.KeptState.{KeptState}
use Rattle.cx_laws_run.specs.cx_laws_tickets.proofs.authorize.Backing.{AllGood}
use Rattle.cx_laws_run.specs.cx_rules.proofs.MonitorEnters.{IsOfMonitor}
use Rattle.cx_laws_run.specs.cx_run.proofs.MonitorEnters.{monitor-enters}
use Rattle.cx_laws_run.proofs.cover.ClientSteps.{client-step}
use Rattle.cx_laws_run.proofs.cover.DaemonStep.{daemon-step}
use Rattle.cx_laws_run.proofs.cover.ReadAsTold.{AreReadAsTold}
use Rattle.cx_laws_run.proofs.cover.RunStays.{entities-but, entities-stay, monitor_links-stay}
use Rattle.cx_laws_run.proofs.cover.State.{EntitiesHave, EntityHas, MonitorLinksHave, RunHas}
use Rattle.cx_laws_run.proofs.cover.Steps.{DrawsBytes, EntityBehind, MonitorBehind, MonitorStep, Ready}
use Rattle.cx_laws_run.specs.cx_laws_tickets.proofs.fetch.AllTold.{AllTold, node-told}
use Rattle.cx_laws_run.specs.cx_laws_tickets.proofs.fetch.AskedKnown.{AreTold, Told}
use Rattle.cx_laws_run.specs.cx_laws_tickets.proofs.fetch.AskedMoving.{Quiets}
use Rattle.cx_laws_run.specs.cx_laws_tickets.proofs.fetch.Handed.{AreHanded, IsPlain, handed-stays}
use Rattle.cx_laws_run.specs.cx_laws_tickets.proofs.fetch.HeardFrames.{AllHeard, node-heard}
use Rattle.cx_laws_run.specs.cx_laws_tickets.proofs.fetch.Later.{of_acceptor, of_connector}
use Rattle.cx_laws_run.specs.cx_laws_tickets.proofs.fetch.OwnDraws.{AreLogged, DrawsNew, logged-more, new-here}
use Rattle.cx_laws_run.specs.cx_laws_tickets.proofs.fetch.PointEvents.{events_of, more-events}
use Rattle.cx_laws_run.specs.cx_laws_tickets.proofs.fetch.RepliedMoments.{WasReplied}
use Rattle.cx_laws_run.specs.cx_laws_tickets.proofs.fetch.Retied.{Handed, grows-retied, inv-retied, retied}
use Rattle.cx_laws_run.specs.cx_laws_tickets.proofs.fetch.ToldStays.{told-stays}
use Rattle.cx_laws_run.specs.cx_laws_keys.proofs.keys.Journal.{entered}
use Rattle.cx_laws_run.specs.cx_laws_keys.proofs.keys.Known.{Inv}
use Rattle.cx_laws_run.specs.cx_laws_keys.proofs.keys.Premises.{IsGranted, behind, granted-step}
use Rattle.cx_laws_run.specs.cx_laws_keys.proofs.keys.Uses.{Grows, Means, Use, Uses, WholeRun}
use Rattle.cx_laws_run.specs.cx_laws_keys.proofs.series.Contents.{contents_by}
use Rattle.cx_laws_run.proofs.run.Events.{AllOccur, NodesOk, event-after, good-behind}
use Rattle.cx_laws_run.proofs.run.Good.{each-before}
use Rattle.cx_laws_run.specs.cx_rules.specs.Monitor.{MonitorNode}
use Rattle.cx_laws_run.specs.cx_rules.specs.MonitorRule.{monitor_rule}
use Rattle.cx_laws_run.specs.cx_rules.specs.Rows.{Outcome}
use Rattle.cx_laws_run.specs.cx_run.specs.Happenings.{EntityNode, Happening, Nodes, OfClient, OfDaemon, Stepped, entity_of, entity_steps, is_of, monitor_steps, seals_from, steps, steps_of}
use Rattle.cx_laws_run.specs.cx_run.specs.Points.{Before, EachPoint, Point, entries_at, points_onto}
use Rattle.cx_steps.specs.Onto.{EachOnto}
use Rattle.cx_steps.specs.declared.seals.Logged.{Logged}
use Rattle.cx_steps.specs.declared.seals.SealEntry.{SealEntry}
use Rattle.std.proofs.lemmas.List.Elements.{All-contains, All-from_recursion}

-- each fetch that is entered at this point is what the monitor replied to its daemon, behind its asking
abbrev pub FetchesReplied : List Point → Point → Type 0
FetchesReplied older p = (f : Fetched) → Contains (entries_at p) (journal.Fetched f) → Before (WasReplied f) older

-- ---- one event

module _ (run : WholeRun) (whole : List Logged) (monitor_step : MonitorStep run whole) (us : Uses) (logins : List Handed) (told : Told) (past : List Point) (nodes : Nodes) (h : Happening)
    (log : List Logged) (J : List Entry) where
  abbrev p : Point
  p = record { nodes = nodes; happening = h }

  -- behind a step of this node that comes to this
  pub record Goes (vs : Uses) (n : NodeName) (s : Stepped) : Type 0 where
    pub more : List Handed
    pub next : Told
    pub has : RunHas run (p ∷ past) vs more next (behind n h.line s.out.seals log) s.nodes
    pub replied : (f : Fetched) → Contains s.out.entries (journal.Fetched f) → Before (WasReplied f) past

  module _ (vs : Uses) (n : NodeName) (s : Stepped) (r : Ready run whole us vs logins told past p n log J s) where
    abbrev later : List Logged
    later = behind n h.line s.out.seals log

    -- keys with what was handed over before, and with more
    inv_before : Inv run whole (retied logins us) log J
    inv_before = inv-retied logins us J run whole log r.inv

    one_behind : (more : List Handed) → (k : List ℕ) (u v : Use) → Means (retied more vs) k u → Means (retied more vs) k v → u ≡ v
    one_behind more = (inv-retied more vs (entered J s.out.entries) run whole later r.inv_behind).one

    grows_same : Grows (retied logins us) (retied logins vs)
    grows_same = grows-retied us vs logins logins (λ key acceptor number name challenge means. refl) r.grows

    -- ---- an entity

    entity-goes : (name : Name) → n ≡ node.Entity name → (new : EntityNode) → EntityBehind run us vs logins told past p name log s new
        → s.nodes.entities ≡ map (λ (e : EntityNode). if is_of name e then new else e) nodes.entities → s.nodes.monitor ≡ nodes.monitor → Goes vs n s
    entity-goes name here new b entities monitor = record {
      more = logins;
      next = b.next;
      has = record {
        known_of = subst (λ (l : List Logged). AreTold run (events_of (p ∷ past)) (retied logins vs) b.next l) same b.known_of;
        handed = subst (λ (l : List Logged). AreHanded (retied logins vs) logins l) same b.handed;
        monitor = subst (λ (m : MonitorNode). MonitorLinksHave run (retied logins vs) b.next later m.links) (sym monitor)
            (monitor_links-stay run whole (retied logins us) (retied logins vs) log J n h.line s.out.seals (one_behind logins) grows_same inv_before (events_of past) (events_of (p ∷ past))
            (more-events p past) told r.has.known_of logins logins (λ x there. there) b.next b.moved (λ key number m challenge means. b.quiet key number m challenge means)
            nodes.monitor.links r.has.monitor);
        entities = subst (λ (es : List EntityNode). EntitiesHave (events_of (p ∷ past)) (retied logins vs) logins b.next later es) (sym entities)
            (entities-but run whole (retied logins us) (retied logins vs) log J n h.line s.out.seals (one_behind logins) grows_same inv_before (events_of past) (events_of (p ∷ past))
            (more-events p past) told r.has.known_of logins logins (λ x there. there) b.next b.moved name
            (λ other unlike link challenge drew key is. b.apart other unlike link challenge drew key is) new
            (subst (λ (l : List Logged). EntityHas (events_of (p ∷ past)) (retied logins vs) logins b.next l new) same b.entity_has) nodes.entities r.has.entities);
      };
      replied = b.fetched;
    }
      where
        same : behind (node.Entity name) h.line s.out.seals log ≡ later
        same = ap (λ (m : NodeName). behind m h.line s.out.seals log) (sym here)

    -- nothing happens
    nothing-goes : s.out.seals ≡ [] → s.out.entries ≡ [] → s.nodes ≡ nodes → Goes vs n s
    nothing-goes seals entries still = record {
      more = logins;
      next = told;
      has = record {
        known_of = told-stays run whole (retied logins us) (retied logins vs) log J n h.line s.out.seals (one_behind logins) grows_same inv_before (events_of past) (events_of (p ∷ past))
            (more-events p past) told r.has.known_of (λ key is. (none key of_connector, none key of_acceptor));
        handed = handed-stays run whole (retied logins us) (retied logins vs) log J n h.line s.out.seals (one_behind logins) grows_same inv_before logins r.has.handed
            (subst (λ (es : List SealEntry). AllByRecursion (IsPlain (retied logins vs)) es) (sym seals) tt);
        monitor = subst (λ (ns : Nodes). MonitorLinksHave run (retied logins vs) told later ns.monitor.links) (sym still)
            (monitor_links-stay run whole (retied logins us) (retied logins vs) log J n h.line s.out.seals (one_behind logins) grows_same inv_before (events_of past) (events_of (p ∷ past))
            (more-events p past) told r.has.known_of logins logins (λ x there. there) told Quiets (λ key number m challenge means. (tt, none key of_acceptor)) nodes.monitor.links r.has.monitor);
        entities = subst (λ (ns : Nodes). EntitiesHave (events_of (p ∷ past)) (retied logins vs) logins told later ns.entities) (sym still)
            (entities-stay run whole (retied logins us) (retied logins vs) log J n h.line s.out.seals (one_behind logins) grows_same inv_before (events_of past) (events_of (p ∷ past))
            (more-events p past) told r.has.known_of logins logins (λ x there. there) told Quiets (λ name link challenge drew key is. (tt, none key of_connector)) nodes.entities r.has.entities);
      };
      replied = λ f there. absurd (empty (journal.Fetched f) (subst (λ (es : List Entry). Contains es (journal.Fetched f)) entries there));
    }
      where
        none : (key : List ℕ) (test : List ℕ → Bool) → contents_by key test s.out.seals ≡ []
        none key test = ap (λ (es : List SealEntry). contents_by key test es) seals

        empty : (e : Entry) → Contains [] e → ⊥
        empty e there = omega (arith, there.1)

    -- ---- the monitor

    -- it fetches nothing
    monitor-none : (e : Entry) (f : Fetched) → e ≡ journal.Fetched f → IsOfMonitor e → ⊥
    monitor-none (journal.Fetched x) f same of = of
    monitor-none (journal.Saved x) f same of = absurd cc
    monitor-none (journal.Issued x) f same of = absurd cc
    monitor-none (journal.Refused x) f same of = absurd cc
    monitor-none (journal.Restarted x) f same of = absurd cc
    monitor-none (journal.Looked x) f same of = of
    monitor-none (journal.Admitted x) f same of = of
    monitor-none (journal.Resumed x) f same of = of
    monitor-none (journal.Sent x) f same of = of
    monitor-none (journal.Handled x) f same of = of
    monitor-none (journal.Answered x) f same of = of
    monitor-none (journal.Ended x) f same of = of
    monitor-none (journal.Broken x) f same of = of
    monitor-none (journal.Leaked x) f same of = of

    monitor-goes : n ≡ node.Monitor → MonitorBehind run us vs logins told past p log s.out.seals s.nodes.monitor.links → s.nodes.entities ≡ nodes.entities → AllByRecursion IsOfMonitor s.out.entries
        → Goes vs n s
    monitor-goes here b same_entities of = record {
      more = b.more;
      next = b.next;
      has = record {
        known_of = subst (λ (l : List Logged). AreTold run (events_of (p ∷ past)) (retied b.more vs) b.next l) same b.known_of;
        handed = subst (λ (l : List Logged). AreHanded (retied b.more vs) b.more l) same b.handed;
        monitor = subst (λ (l : List Logged). MonitorLinksHave run (retied b.more vs) b.next l s.nodes.monitor.links) same b.monitor_has;
        entities = subst (λ (es : List EntityNode). EntitiesHave (events_of (p ∷ past)) (retied b.more vs) b.more b.next later es) (sym same_entities)
            (entities-stay run whole (retied logins us) (retied b.more vs) log J n h.line s.out.seals (one_behind b.more) (grows-retied us vs logins b.more b.stay r.grows) inv_before
            (events_of past) (events_of (p ∷ past)) (more-events p past) told r.has.known_of logins b.more b.within b.next b.moved
            (λ name link challenge drew key is. b.apart name link challenge drew key is) nodes.entities r.has.entities);
      };
      replied = λ f there. absurd (monitor-none (journal.Fetched f) f refl (All-contains IsOfMonitor s.out.entries (journal.Fetched f) (All-from_recursion IsOfMonitor s.out.entries of) there));
    }
      where
        same : behind node.Monitor h.line s.out.seals log ≡ later
        same = ap (λ (m : NodeName). behind m h.line s.out.seals log) (sym here)

  -- ---- any node

  same-entities : (o : Outcome MonitorNode) (l : Option LeftState) (saved : Option KeptState) → (monitor_steps nodes o l saved).nodes.entities ≡ nodes.entities
  same-entities o (Some left) (Some saved) = refl
  same-entities o None saved = refl
  same-entities o (Some left) None = refl

  found-goes : (vs : Uses) (name : Name) (found : Option EntityNode) → entity_of name nodes ≡ found
      → Ready run whole us vs logins told past p (node.Entity name) log J (entity_steps nodes h name found) → Goes vs (node.Entity name) (entity_steps nodes h name found)
  found-goes vs name None is r = nothing-goes vs (node.Entity name) (entity_steps nodes h name None) r refl refl refl
  found-goes vs name (Some (OfClient c)) is r =
      entity-goes vs (node.Entity name) (entity_steps nodes h name (Some (OfClient c))) r name refl _ (client-step run whole us vs logins told past p name log J c is r) refl refl
  found-goes vs name (Some (OfDaemon d)) is r =
      entity-goes vs (node.Entity name) (entity_steps nodes h name (Some (OfDaemon d))) r name refl _ (daemon-step run whole us vs logins told past p name log J d is r) refl refl

  pub node-goes : (vs : Uses) (n : NodeName) → Ready run whole us vs logins told past p n log J (steps_of nodes h n) → Goes vs n (steps_of nodes h n)
  node-goes vs node.Monitor r =
      let o : Outcome MonitorNode = monitor_rule nodes.monitor h.input h.reading h.draw in
      monitor-goes vs node.Monitor (monitor_steps nodes o h.left o.out.save) r refl (monitor_step us vs logins told past p log J r) (same-entities o h.left o.out.save)
      (monitor-enters nodes h.input h.reading h.draw h.left)
  node-goes vs (node.Entity name) r = found-goes vs name (entity_of name nodes) refl r

-- ---- every list of events

-- what the events behind these points have to be like
pub record Comes (run : WholeRun) (past : List Point) (nodes : Nodes) (hs : List Happening) : Type 0 where
  pub occur : AllOccur run nodes hs
  pub bytes : AllByRecursion (λ (h : Happening). AllByRecursion (λ (b : ℕ). b < 256) h.draw) hs
  pub reads : EachPoint AreReadAsTold (points_onto past nodes hs)

module _ (run : WholeRun) (whole : List Logged) (monitor_step : MonitorStep run whole) where
  -- what is known between two events
  pub record Stands (past : List Point) (nodes : Nodes) (log : List Logged) : Type 0 where
    pub us : Uses
    pub logins : List Handed
    pub told : Told
    pub J : List Entry
    pub inv : Inv run whole us log J
    pub ok : NodesOk run nodes us J
    pub good : AllGood run J
    pub has : RunHas run past us logins told log nodes
    pub tells : AllTold past nodes.entities
    pub heard : AllHeard nodes.monitor.links
    pub logged : AreLogged past log
    pub fresh : EachPoint DrawsNew past
    pub bytes : EachPoint DrawsBytes past

  pub replied-onto : (hs : List Happening) (past : List Point) (nodes : Nodes) (log : List Logged) → Stands past nodes log → Comes run past nodes hs
      → EachOnto (IsGranted run.leaked whole) log (seals_from nodes hs) → EachPoint FetchesReplied past → EachPoint FetchesReplied (points_onto past nodes hs)
  replied-onto [] past nodes log k comes g each = each
  replied-onto (h ∷ hs) past nodes log k comes g each =
      let p : Point = record { nodes = nodes; happening = h } in
      let s : Stepped = steps nodes h in
      let gs = granted-step run.leaked whole h.node h.line log s.out.seals (seals_from s.nodes hs) g in
      let a = event-after run whole k.us log k.J nodes h k.inv k.ok k.good comes.occur.0 gs.0 in
      let tells : AllTold (p ∷ past) s.nodes.entities = node-told past nodes h h.node refl k.tells in
      let heard : AllHeard s.nodes.monitor.links = node-heard nodes h h.node k.heard in
      let fresh : EachPoint DrawsNew (p ∷ past) = (new-here run.leaked whole h.node h.line past p log gs.0 k.logged, k.fresh) in
      let bytes : EachPoint DrawsBytes (p ∷ past) = (comes.bytes.0, k.bytes) in
      let goes = node-goes run whole monitor_step k.us k.logins k.told past nodes h log k.J a.uses h.node (record {
        here = refl;
        stepped = refl;
        inv = k.inv;
        grows = a.grows;
        inv_behind = a.inv;
        ok = k.ok;
        ok_behind = a.good;
        good = k.good;
        has = k.has;
        tells = k.tells;
        tells_behind = tells;
        heard = k.heard;
        heard_behind = heard;
        fresh = fresh;
        bytes = bytes;
        drawn = comes.occur.0.drawn;
        looks = comes.occur.0.looks;
        comes = comes.occur.0.comes;
        granted = gs.0;
        reads = (each-before AreReadAsTold hs (p ∷ past) s.nodes comes.reads).0;
      }) in
      replied-onto hs (p ∷ past) s.nodes (behind h.node h.line s.out.seals log) (record {
        us = a.uses;
        logins = goes.more;
        told = goes.next;
        J = entered k.J s.out.entries;
        inv = a.inv;
        ok = a.good;
        good = good-behind run s.nodes a.uses k.J s.out.entries a.good k.good comes.occur.0.good;
        has = goes.has;
        tells = tells;
        heard = heard;
        logged = logged-more p past log h.node h.line k.logged;
        fresh = fresh;
        bytes = bytes;
      }) (record { occur = comes.occur.1; bytes = comes.bytes.1; reads = comes.reads }) gs.1 (goes.replied, each)
