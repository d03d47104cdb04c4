-- Of every list of events in which draws are fresh: what a client sends under a cookie is numbered 1, 2, 3 and so on, over the whole journal.
use Rattle.std.proofs.Common.{◌≡◌, ℕ, Bool, true, false, List, [], ◌∷◌, ◌++◌, filter_map, map, Option, Some, None, refl, sym, ap, ◌∙◌, subst}
use Rattle.std.specs.Prelude.{if◌then◌else◌}
use Rattle.std.specs.List.{AllByRecursion}
use Rattle.cx_base.proofs.Names.{same_name_is}
use Rattle.cx_base.specs.Names.{Name, is_daemon_type, same_name}
use Rattle.cx_base.specs.declared.nodes.NodeName.{NodeName}
use Rattle.cx_base.specs.declared.nodes.NodeName.TheVariants as node
use Rattle.cx_desk.specs.Handlers.{Handlers}
use Rattle.cx_journal.specs.Behind.{EachBehind}
use Rattle.cx_journal.specs.PrefixOfSent.{sent_under}
use Rattle.cx_journal.specs.declared.entries.Entry.{Entry}
use Rattle.cx_laws_sessions.proofs.queues.ClientCookies.{Moved, client-moved}
use Rattle.cx_laws_sessions.proofs.queues.Clients.{client-kept}
use Rattle.cx_laws_sessions.proofs.queues.Daemons.{step-kept}
use Rattle.cx_laws_sessions.proofs.queues.Drawing.{Draws, IsNewAt, WasDrawn, onto-split, step-draws}
use Rattle.cx_laws_sessions.proofs.queues.Entries.{IsOf, IsPlain, IsSilent, Untouched, mute-of, others-untouched, plain-silent, plain-untouched}
use Rattle.cx_laws_sessions.proofs.queues.Numbers.{IsNextUnder, all-none-under, all_under, each-numbered, silent-next, under-still}
use Rattle.cx_laws_sessions.proofs.queues.Places.{Nowhere, Placed, places-on}
use Rattle.cx_laws_sessions.proofs.queues.Runs.{AllQueues, EntityQueues, RunBehind, entity-behind, entries_in, first-queues, leaks-plain, monitor-plain, node-run}
use Rattle.cx_laws_sessions.specs.queues.Sending.{IsNumbered}
use Rattle.cx_laws_sessions.proofs.session.Clients.{IsMute}
use Rattle.cx_laws_sessions.proofs.session.Daemons.{daemon-comes}
use Rattle.cx_laws_sessions.proofs.session.Lists.{all-map, found-all, found-passes, map-append}
use Rattle.cx_laws_sessions.proofs.session.Monitors.{monitor-mute}
use Rattle.cx_laws_sessions.proofs.session.Moves.{LinksServe}
use Rattle.cx_laws_sessions.proofs.session.Runs.{behind-append, entries-by, other-way}
use Rattle.cx_words.specs.declared.choices.LeftState.{LeftState}
use Rattle.cx_laws_sessions.specs.cx_lines.specs.declared.lines.Numbered.{Numbered}
use Rattle.cx_rotate.specs.declared.states.KeptState.{KeptState}
use Rattle.cx_laws_sessions.specs.cx_rules.specs.Monitor.{MonitorNode}
use Rattle.cx_laws_sessions.specs.cx_rules.specs.MonitorRule.{monitor_rule}
use Rattle.cx_laws_sessions.specs.cx_rules.specs.Rows.{Outcome}
use Rattle.cx_laws_sessions.specs.cx_rules_session.specs.ClientRule.{opening_whole_client, whole_client_rule}
use Rattle.cx_laws_sessions.specs.cx_rules_session.specs.DaemonRule.{daemon_step}
use Rattle.cx_laws_sessions.specs.cx_rules_session.specs.IncomingLinks.{Served}
use Rattle.cx_laws_sessions.specs.cx_run.proofs.ClientKept.{whole-named}
use Rattle.cx_laws_sessions.specs.cx_run.specs.Happenings.{Entered, EntityNode, OfClient, OfDaemon, Happening, Nodes, Stepped, mon_client_in, entered_by, entity_of, entity_rule, entity_steps, is_of, journal_from, logged_by, monitor_steps, seals_from, steps, steps_of}
use Rattle.cx_laws_sessions.specs.cx_run.specs.Opening.{Declared, Setup, mon_client_of, daemon_opening, entity_in, leaks_entered, nodes_of, secrets_drawn}
use Rattle.cx_laws_sessions.specs.cx_run.specs.Points.{journal_since, log_since, onto}
use Rattle.cx_laws_sessions.specs.cx_run.specs.Runs.{run_journal, run_log, setup_of, trace}
use Rattle.cx_laws_sessions.specs.cx_steps.specs.Onto.{EachOnto}
use Rattle.cx_laws_sessions.specs.cx_steps.specs.Premises.{IsFresh}
use Rattle.cx_laws_sessions.specs.cx_steps.specs.declared.seals.Logged.{Logged}

-- ---- an entity

-- the cookies of a client are at their places; a daemon sends under none
abbrev EntityPlaced : (ℕ → Type 0) → List Entry → EntityNode → Type 0
EntityPlaced was J (OfClient c) = Placed was c.own.mon_client.name J c.links c.own.sessions
EntityPlaced was J (OfDaemon d) = Unit {0}

abbrev AllPlaced : (ℕ → Type 0) → List Entry → List EntityNode → Type 0
AllPlaced was J entities = AllByRecursion (EntityPlaced was J) entities

module _ (was is : ℕ → Type 0) (J : List Entry) where
  -- what is so behind a step of an entity
  record EntityMoved (o : Outcome EntityNode) : Type 0 where
    next : EachBehind IsNextUnder J o.out.entries
    placed : EntityPlaced is (J ++ o.out.entries) o.state

  entity-moved : (nodes : Nodes) (h : Happening) (e : EntityNode) → EntityQueues J e → EntityPlaced was J e
      → let o = entity_rule nodes.handlers e h.input h.reading h.draw in Draws was is o.out.seals → EntityMoved o
  entity-moved nodes h (OfClient c) queues placed d =
      let o = whole_client_rule c h.input h.reading h.draw in
      let m : Moved was is J c placed.0 queues.apart placed.1 o =
      client-moved was is J c placed.0 queues.apart placed.1 h.reading h.draw h.input (client-kept J c queues h.reading h.draw h.input).numbered d in
      record {
        next = m.next;
        placed = subst (λ (n : Name). Placed is n (J ++ o.out.entries) o.state.links o.state.own.sessions) (sym (whole-named c h.input h.reading h.draw)) m.placed;
      }
  entity-moved nodes h (OfDaemon d) queues placed draws =
      let o = daemon_step nodes.handlers d h.input h.reading h.draw in
      let kept = step-kept nodes.handlers d.node.own.mon_client.name J d.book o.state.book (λ (x : Served). LinksServe d.node.links x) (λ (x : Served). LinksServe o.state.node.links x) o.out.entries queues
      (daemon-comes nodes.handlers d h.input h.reading h.draw) in
      record { next = silent-next o.out.entries J kept.silent; placed = tt }

  -- entries that leave an entity
  left-placed : ((cookie : ℕ) → was cookie → is cookie) → (es : List Entry) (e : EntityNode) → AllByRecursion (Untouched (mon_client_in e).name) es → EntityPlaced was J e → EntityPlaced is (J ++ es) e
  left-placed grows es (OfClient c) left placed = (
    placed.0,
    places-on was is c.own.mon_client.name J (J ++ es) c.links c.own.sessions placed.0 grows (λ cookie. under-still c.own.mon_client.name cookie J es left) placed.1,
  )
  left-placed grows es (OfDaemon d) left placed = tt

  -- ---- all entities

  record RunMoved (s : Stepped) : Type 0 where
    next : EachBehind IsNextUnder J s.out.entries
    placed : AllPlaced is (J ++ s.out.entries) s.nodes.entities

  all-left : ((cookie : ℕ) → was cookie → is cookie) → (es : List Entry) → ((name : Name) → AllByRecursion (Untouched name) es) → (entities : List EntityNode) → AllPlaced was J entities
      → AllPlaced is (J ++ es) entities
  all-left grows es left [] placed = tt
  all-left grows es left (e ∷ entities) placed = (left-placed grows es e (left (mon_client_in e).name) placed.0, all-left grows es left entities placed.1)

  replaced-placed : ((cookie : ℕ) → was cookie → is cookie) → (es : List Entry) (name : Name) (new : EntityNode) → EntityPlaced is (J ++ es) new
      → ((other : Name) → same_name name other ≡ false → AllByRecursion (Untouched other) es) → (entities : List EntityNode) → AllPlaced was J entities
      → AllPlaced is (J ++ es) (map (λ (e : EntityNode). if is_of name e then new else e) entities)
  replaced-placed grows es name new placed elsewhere [] h = tt
  replaced-placed grows es name new placed elsewhere (e ∷ entities) h = (by_test (is_of name e) refl, replaced-placed grows es name new placed elsewhere entities h.1)
    where
      by_test : (t : Bool) → is_of name e ≡ t → EntityPlaced is (J ++ es) (if t then new else e)
      by_test true same = placed
      by_test false apart = left-placed grows es e (elsewhere (mon_client_in e).name (other-way name (mon_client_in e).name apart)) h.0

  entity-run : (nodes : Nodes) (h : Happening) (name : Name) (found : Option EntityNode) → entity_of name nodes ≡ found → AllQueues J nodes.entities → AllPlaced was J nodes.entities
      → Draws was is (entity_steps nodes h name found).out.seals → RunMoved (entity_steps nodes h name found)
  entity-run nodes h name None of queues placed d = record { next = tt; placed = all-left d.grows [] (λ other. tt) nodes.entities placed }
  entity-run nodes h name (Some e) of queues placed d =
      let o : Outcome EntityNode = entity_rule nodes.handlers e h.input h.reading h.draw in
      let named : (mon_client_in e).name ≡ name = same_name_is (mon_client_in e).name name (found-passes (is_of name) nodes.entities e of) in
      let its : EntityQueues J e = found-all (EntityQueues J) (is_of name) nodes.entities e queues of in
      let m : EntityMoved o = entity-moved nodes h e its (found-all (EntityPlaced was J) (is_of name) nodes.entities e placed of) d in
      let elsewhere : (other : Name) → same_name name other ≡ false → AllByRecursion (Untouched other) o.out.entries =
      λ other apart. others-untouched (node.Entity (mon_client_in e).name) other (ap (λ (n : Name). same_name n other) named ∙ apart) o.out.entries (entity-behind nodes h J e its).own in
      record { next = m.next; placed = replaced-placed d.grows o.out.entries name o.state m.placed elsewhere nodes.entities placed }

  monitor-run : (nodes : Nodes) (h : Happening) → AllPlaced was J nodes.entities
      → let o = monitor_rule nodes.monitor h.input h.reading h.draw in Draws was is (monitor_steps nodes o h.left o.out.save).out.seals → RunMoved (monitor_steps nodes o h.left o.out.save)
  monitor-run nodes h placed d =
      let o : Outcome MonitorNode = monitor_rule nodes.monitor h.input h.reading h.draw in
      by_save o h.left o.out.save (monitor-mute nodes h.input h.reading h.draw h.left) d.grows
    where
      all-plain : (es : List Entry) → AllByRecursion (IsMute node.Monitor) es → AllByRecursion IsPlain es
      all-plain es mute = all-map (IsMute node.Monitor) IsPlain monitor-plain es mute

      untouched : (es : List Entry) → AllByRecursion (IsMute node.Monitor) es → (name : Name) → AllByRecursion (Untouched name) es
      untouched es mute name = others-untouched node.Monitor name refl es (all-map (IsMute node.Monitor) (IsOf node.Monitor) (mute-of node.Monitor) es mute)

      silent : (es : List Entry) → AllByRecursion (IsMute node.Monitor) es → AllByRecursion IsSilent es
      silent es mute = all-map IsPlain IsSilent plain-silent es (all-plain es mute)

      by_save : (o : Outcome MonitorNode) (l : Option LeftState) (saved : Option KeptState) →
          let es = (monitor_steps nodes o l saved).out.entries in
          AllByRecursion (IsMute node.Monitor) es → ((cookie : ℕ) → was cookie → is cookie) → RunMoved (monitor_steps nodes o l saved)
      by_save o (Some l) (Some saved) mute grows = record { next = tt; placed = all-left grows [] (λ name. tt) nodes.entities placed }
      by_save o None saved mute grows = record {
        next = silent-next o.out.entries J (silent o.out.entries mute);
        placed = all-left grows o.out.entries (untouched o.out.entries mute) nodes.entities placed;
      }
      by_save o (Some l) None mute grows = record {
        next = silent-next o.out.entries J (silent o.out.entries mute);
        placed = all-left grows o.out.entries (untouched o.out.entries mute) nodes.entities placed;
      }

  node-moved : (nodes : Nodes) (h : Happening) (n : NodeName) → AllQueues J nodes.entities → AllPlaced was J nodes.entities → Draws was is (steps_of nodes h n).out.seals
      → RunMoved (steps_of nodes h n)
  node-moved nodes h node.Monitor queues placed d = monitor-run nodes h placed d
  node-moved nodes h (node.Entity name) queues placed d = entity-run nodes h name (entity_of name nodes) refl queues placed d

-- ---- every list of events

next-from : (hs : List Happening) (nodes : Nodes) (J : List Entry) (log : List Logged) → AllQueues J nodes.entities → AllPlaced (WasDrawn log) J nodes.entities
    → EachOnto IsNewAt log (seals_from nodes hs) → EachBehind IsNextUnder J (entries_in (journal_from nodes hs))
next-from [] nodes J log queues placed fresh = tt
next-from (h ∷ hs) nodes J log queues placed fresh =
    let s : Stepped = steps nodes h in
    let logged : List Logged = logged_by h s.out in
    let split = onto-split log logged (seals_from s.nodes hs) fresh in
    let m : RunMoved (WasDrawn log) (WasDrawn (onto logged log)) J s =
    node-moved (WasDrawn log) (WasDrawn (onto logged log)) J nodes h h.node queues placed (step-draws h s.out log split.0) in
    let b : RunBehind J s = node-run J nodes h h.node queues in
    let later : List Entry = entries_in (journal_from s.nodes hs) in
    let rest : EachBehind IsNextUnder (J ++ s.out.entries) later = next-from hs s.nodes (J ++ s.out.entries) (onto logged log) b.queues m.placed split.1 in
    let same : entries_in (entered_by h s.out ++ journal_from s.nodes hs) ≡ s.out.entries ++ later =
    map-append (λ (x : Entered). x.entry) (entered_by h s.out) (journal_from s.nodes hs) ∙ ap (λ (l : List Entry). l ++ later) (entries-by h s.out.entries) in
    subst (λ (l : List Entry). EachBehind IsNextUnder J l) (sym same) (behind-append IsNextUnder J s.out.entries later m.next rest)

-- at first no cookie is anywhere
first-placed : (was : ℕ → Type 0) (J : List Entry) → ((client : Name) (cookie : ℕ) → all_under client cookie J ≡ []) → (es : List Declared) → AllPlaced was J (map entity_in es)
first-placed was J none [] = tt
first-placed was J none (e ∷ es) = (by_kind (is_daemon_type e.name.kind), first-placed was J none es)
  where
    by_kind : (t : Bool) → EntityPlaced was J (if t then OfDaemon (daemon_opening (mon_client_of e)) else OfClient (opening_whole_client (mon_client_of e)))
    by_kind true = tt
    by_kind false = ((λ cookie. Nowhere), record { told = none e.name; waits = tt; held = tt })

all-next : (setup : Setup) (hs : List Happening) → IsFresh (log_since setup hs) → EachBehind IsNextUnder [] (journal_since setup hs)
all-next setup hs fresh =
    let leaks : List Entry = entries_in (leaks_entered setup) in
    let later : List Entry = entries_in (journal_from (nodes_of setup) hs) in
    let plain : AllByRecursion IsPlain leaks = leaks-plain setup.leaks in
    let none : (client : Name) (cookie : ℕ) → all_under client cookie leaks ≡ [] =
    λ client cookie. all-none-under client cookie leaks (all-map IsPlain (Untouched client) (plain-untouched client) leaks plain) in
    let secrets : List Logged = onto (secrets_drawn setup) [] in
    let rest : EachBehind IsNextUnder leaks later =
    next-from hs (nodes_of setup) leaks secrets (first-queues leaks setup.entities) (first-placed (WasDrawn secrets) leaks none setup.entities)
    (onto-split [] (secrets_drawn setup) (seals_from (nodes_of setup) hs) fresh).1 in
    subst (λ (l : List Entry). EachBehind IsNextUnder [] l) (sym (map-append (λ (x : Entered). x.entry) (leaks_entered setup) (journal_from (nodes_of setup) hs)))
    (behind-append IsNextUnder [] leaks later (silent-next leaks [] (all-map IsPlain IsSilent plain-silent leaks plain)) rest)

-- ---- the laws

pub cookies-numbered : (setup : Setup) (hs : List Happening) → IsFresh (log_since setup hs) → (client : Name) (cookie : ℕ)
    → IsNumbered (filter_map (sent_under cookie client) (journal_since setup hs))
cookies-numbered setup hs fresh client cookie = each-numbered client cookie (journal_since setup hs) [] tt (all-next setup hs fresh)

pub schedule-cookies-numbered : (handlers : Handlers) (script : List Numbered) → IsFresh (run_log handlers script) → (client : Name) (cookie : ℕ)
    → IsNumbered (filter_map (sent_under cookie client) (run_journal handlers script))
schedule-cookies-numbered handlers script fresh = cookies-numbered (setup_of handlers script) (trace handlers script) fresh
