-- Of every list of events: what is sent and handled is so in order; and behind all of them what waits and what was taken is as the journal says.
use Rattle.std.proofs.Common.{◌≡◌, Bool, true, false, List, [], ◌∷◌, ◌++◌, map, Option, Some, None, refl, sym, ap, ◌∙◌, subst}
use Rattle.std.proofs.lemmas.List.{append-nil, append_assoc}
use Rattle.std.specs.Prelude.{if◌then◌else◌}
use Rattle.std.specs.List.{AllByRecursion}
use Rattle.cx_laws_sessions.specs.cx_authorize.specs.Daemon.{Authority}
use Rattle.cx_base.proofs.Names.{same_name_is}
use Rattle.cx_base.specs.Names.{Name, is_daemon_type, same_name}
use Rattle.cx_base.specs.declared.nodes.NodeName.{NodeName}
use Rattle.cx_base.specs.declared.nodes.NodeName.TheVariants as node
use Rattle.cx_desk.specs.Handlers.{Handlers}
use Rattle.cx_journal.specs.Behind.{EachBehind}
use Rattle.cx_journal.specs.declared.entries.Entry.{Entry}
use Rattle.cx_journal.specs.declared.entries.Entry.TheVariants as journal
use Rattle.cx_laws_sessions.proofs.queues.Clients.{ClientQueues, client-kept, queues-still}
use Rattle.cx_laws_sessions.proofs.queues.Daemons.{Counts, SessionCounts, counts-still, step-kept}
use Rattle.cx_laws_sessions.proofs.queues.Entries.{IsInOrderBy, IsOf, Untouched, mute-of, others-untouched, plain-ordered, IsPlain}
use Rattle.cx_laws_sessions.specs.queues.Counting.{IsHandledInOrder, IsHandledInOrderBy, handled_since}
use Rattle.cx_laws_sessions.specs.queues.Sending.{IsSentInOrder, IsSentInOrderBy}
use Rattle.cx_laws_sessions.specs.queues.Waiting.{AreQueuedAt, IsQueuedAt}
use Rattle.cx_laws_sessions.proofs.session.Clients.{IsMute, client-mute}
use Rattle.cx_laws_sessions.proofs.session.Daemons.{daemon-comes}
use Rattle.cx_laws_sessions.proofs.session.Lists.{all-map, found-all, found-passes, map-append}
use Rattle.cx_laws_sessions.proofs.session.Monitors.{monitor-mute}
use Rattle.cx_laws_sessions.proofs.session.Moves.{LinksServe}
use Rattle.cx_laws_sessions.proofs.session.Runs.{behind-append, entries-by, other-way}
use Rattle.cx_words.specs.declared.choices.LeftState.{LeftState}
use Rattle.cx_laws_sessions.specs.cx_lines.specs.declared.lines.Numbered.{Numbered}
use Rattle.cx_rotate.specs.declared.states.KeptState.{KeptState}
use Rattle.cx_laws_sessions.specs.cx_rules.specs.Monitor.{MonitorNode}
use Rattle.cx_laws_sessions.specs.cx_rules.specs.MonitorRule.{monitor_rule}
use Rattle.cx_laws_sessions.specs.cx_rules.specs.Rows.{Outcome}
use Rattle.cx_laws_sessions.specs.cx_rules_session.specs.ClientRule.{me, opening_whole_client, whole_client_rule}
use Rattle.cx_laws_sessions.specs.cx_rules_session.specs.DaemonRule.{daemon_step}
use Rattle.cx_laws_sessions.specs.cx_rules_session.specs.IncomingLinks.{Served}
use Rattle.cx_laws_sessions.specs.cx_run.proofs.ClientKept.{whole-named}
use Rattle.cx_laws_sessions.specs.cx_run.proofs.DaemonNamed.{daemon-named}
use Rattle.cx_laws_sessions.specs.cx_run.specs.Happenings.{Entered, EntityNode, OfClient, OfDaemon, Happening, Nodes, Stepped, mon_client_in, entered_by, entity_of, entity_rule, entity_steps, is_of, journal_from, monitor_steps, nodes_behind, steps, steps_of}
use Rattle.cx_laws_sessions.specs.cx_run.specs.Opening.{Declared, Leak, Setup, mon_client_of, daemon_opening, entity_in, leaks_entered, nodes_of}
use Rattle.cx_laws_sessions.specs.cx_run.specs.Points.{journal_since}
use Rattle.cx_laws_sessions.specs.cx_run.specs.Runs.{run_journal, setup_of, trace}
use Rattle.cx_session.specs.declared.session.Session.{Session}

-- ---- an entity

-- what is so of an entity behind this journal
abbrev pub EntityQueues : List Entry → EntityNode → Type 0
EntityQueues J (OfClient c) = ClientQueues J c.own.mon_client.name c.own.sessions
EntityQueues J (OfDaemon d) = Counts J d.node.own.mon_client.name d.book

abbrev pub AllQueues : List Entry → List EntityNode → Type 0
AllQueues J entities = AllByRecursion (EntityQueues J) entities

-- what is so behind a step of an entity: what it enters is in order, and is of its own node
pub record EntityBehind (J : List Entry) (name : Name) (o : Outcome EntityNode) : Type 0 where
  ordered : EachBehind IsInOrderBy J o.out.entries
  pub own : AllByRecursion (IsOf (node.Entity name)) o.out.entries
  queues : EntityQueues (J ++ o.out.entries) o.state

pub entity-behind : (nodes : Nodes) (h : Happening) (J : List Entry) (e : EntityNode) → EntityQueues J e
    → EntityBehind J (mon_client_in e).name (entity_rule nodes.handlers e h.input h.reading h.draw)
entity-behind nodes h J (OfClient c) queues =
    let o = whole_client_rule c h.input h.reading h.draw in
    let kept = client-kept J c queues h.reading h.draw h.input in
    record {
      ordered = kept.ordered;
      own = all-map (IsMute (me c.own)) (IsOf (me c.own)) (mute-of (me c.own)) o.out.entries (client-mute c h.input h.reading h.draw);
      queues = subst (λ (n : Name). ClientQueues (J ++ o.out.entries) n o.state.own.sessions) (sym (whole-named c h.input h.reading h.draw)) kept.queues;
    }
entity-behind nodes h J (OfDaemon d) counts =
    let o = daemon_step nodes.handlers d h.input h.reading h.draw in
    let name : Name = d.node.own.mon_client.name in
    let kept = step-kept nodes.handlers name J d.book o.state.book (λ (x : Served). LinksServe d.node.links x) (λ (x : Served). LinksServe o.state.node.links x) o.out.entries counts
    (daemon-comes nodes.handlers d h.input h.reading h.draw) in
    record {
      ordered = kept.ordered;
      own = kept.own;
      queues = subst (λ (n : Name). Counts (J ++ o.out.entries) n o.state.book) (sym (daemon-named nodes.handlers d h.input h.reading h.draw)) kept.counts;
    }

-- entries that leave an entity
left-queues : (J es : List Entry) (e : EntityNode) → AllByRecursion (Untouched (mon_client_in e).name) es → EntityQueues J e → EntityQueues (J ++ es) e
left-queues J es (OfClient c) left queues = queues-still J es c.own.mon_client.name c.own.sessions left queues
left-queues J es (OfDaemon d) left counts = counts-still J es d.node.own.mon_client.name d.book left counts

-- ---- all entities

-- what is so behind a step of any node
pub record RunBehind (J : List Entry) (s : Stepped) : Type 0 where
  ordered : EachBehind IsInOrderBy J s.out.entries
  pub queues : AllQueues (J ++ s.out.entries) s.nodes.entities

all-left : (J es : List Entry) (entities : List EntityNode) → ((name : Name) → AllByRecursion (Untouched name) es) → AllQueues J entities → AllQueues (J ++ es) entities
all-left J es [] left queues = tt
all-left J es (e ∷ entities) left queues = (left-queues J es e (left (mon_client_in e).name) queues.0, all-left J es entities left queues.1)

replaced-queues : (J es : List Entry) (name : Name) (new : EntityNode) → EntityQueues (J ++ es) new → ((other : Name) → same_name name other ≡ false → AllByRecursion (Untouched other) es)
    → (entities : List EntityNode) → AllQueues J entities → AllQueues (J ++ es) (map (λ (e : EntityNode). if is_of name e then new else e) entities)
replaced-queues J es name new queues elsewhere [] h = tt
replaced-queues J es name new queues elsewhere (e ∷ entities) h = (by_test (is_of name e) refl, replaced-queues J es name new queues elsewhere entities h.1)
  where
    by_test : (t : Bool) → is_of name e ≡ t → EntityQueues (J ++ es) (if t then new else e)
    by_test true same = queues
    by_test false apart = left-queues J es e (elsewhere (mon_client_in e).name (other-way name (mon_client_in e).name apart)) h.0

entity-run : (J : List Entry) (nodes : Nodes) (h : Happening) (name : Name) (found : Option EntityNode) → entity_of name nodes ≡ found → AllQueues J nodes.entities
    → RunBehind J (entity_steps nodes h name found)
entity-run J nodes h name None is queues = record { ordered = tt; queues = all-left J [] nodes.entities (λ other. tt) queues }
entity-run J nodes h name (Some e) is queues =
    let o : Outcome EntityNode = entity_rule nodes.handlers e h.input h.reading h.draw in
    let named : (mon_client_in e).name ≡ name = same_name_is (mon_client_in e).name name (found-passes (is_of name) nodes.entities e is) in
    let b : EntityBehind J (mon_client_in e).name o = entity-behind nodes h J e (found-all (EntityQueues J) (is_of name) nodes.entities e queues is) in
    let elsewhere : (other : Name) → same_name name other ≡ false → AllByRecursion (Untouched other) o.out.entries =
    λ other apart. others-untouched (node.Entity (mon_client_in e).name) other (ap (λ (n : Name). same_name n other) named ∙ apart) o.out.entries b.own in
    record { ordered = b.ordered; queues = replaced-queues J o.out.entries name o.state b.queues elsewhere nodes.entities queues }

-- what the monitor enters sends and handles nothing
pub monitor-plain : (e : Entry) → IsMute node.Monitor e → IsPlain e
monitor-plain (journal.Admitted x) h = absurd h
monitor-plain (journal.Handled x) h = absurd h
monitor-plain (journal.Sent x) h = absurd cc
monitor-plain (journal.Answered x) h = tt
monitor-plain (journal.Resumed x) h = tt
monitor-plain (journal.Ended x) h = tt
monitor-plain (journal.Restarted x) h = tt
monitor-plain (journal.Saved x) h = tt
monitor-plain (journal.Issued x) h = tt
monitor-plain (journal.Fetched x) h = tt
monitor-plain (journal.Looked x) h = tt
monitor-plain (journal.Refused x) h = tt
monitor-plain (journal.Broken x) h = tt
monitor-plain (journal.Leaked x) h = tt

monitor-run : (J : List Entry) (nodes : Nodes) (h : Happening) → AllQueues J nodes.entities
    → let o = monitor_rule nodes.monitor h.input h.reading h.draw in RunBehind J (monitor_steps nodes o h.left o.out.save)
monitor-run J nodes h queues =
    let o : Outcome MonitorNode = monitor_rule nodes.monitor h.input h.reading h.draw in
    by_save o h.left o.out.save (monitor-mute nodes h.input h.reading h.draw h.left)
  where
    all-plain : (es : List Entry) → AllByRecursion (IsMute node.Monitor) es → AllByRecursion IsPlain es
    all-plain es mute = all-map (IsMute node.Monitor) IsPlain monitor-plain es mute

    untouched : (es : List Entry) → AllByRecursion (IsMute node.Monitor) es → (name : Name) → AllByRecursion (Untouched name) es
    untouched es mute name = others-untouched node.Monitor name refl es (all-map (IsMute node.Monitor) (IsOf node.Monitor) (mute-of node.Monitor) es mute)

    by_save : (o : Outcome MonitorNode) (l : Option LeftState) (saved : Option KeptState) →
        let es = (monitor_steps nodes o l saved).out.entries in
        AllByRecursion (IsMute node.Monitor) es → RunBehind J (monitor_steps nodes o l saved)
    by_save o (Some l) (Some saved) mute = record { ordered = tt; queues = all-left J [] nodes.entities (λ name. tt) queues }
    by_save o None saved mute = record {
      ordered = plain-ordered o.out.entries J (all-plain o.out.entries mute);
      queues = all-left J o.out.entries nodes.entities (untouched o.out.entries mute) queues;
    }
    by_save o (Some l) None mute = record {
      ordered = plain-ordered o.out.entries J (all-plain o.out.entries mute);
      queues = all-left J o.out.entries nodes.entities (untouched o.out.entries mute) queues;
    }

pub node-run : (J : List Entry) (nodes : Nodes) (h : Happening) (n : NodeName) → AllQueues J nodes.entities → RunBehind J (steps_of nodes h n)
node-run J nodes h node.Monitor queues = monitor-run J nodes h queues
node-run J nodes h (node.Entity name) queues = entity-run J nodes h name (entity_of name nodes) refl queues

-- ---- every list of events

abbrev pub entries_in : List Entered → List Entry
entries_in entered = map (λ (x : Entered). x.entry) entered

-- behind these events
record AllBehind (J : List Entry) (nodes : Nodes) (hs : List Happening) : Type 0 where
  ordered : EachBehind IsInOrderBy J (entries_in (journal_from nodes hs))
  queues : AllQueues (J ++ entries_in (journal_from nodes hs)) (nodes_behind nodes hs).entities

behind-from : (hs : List Happening) (nodes : Nodes) (J : List Entry) → AllQueues J nodes.entities → AllBehind J nodes hs
behind-from [] nodes J queues = record { ordered = tt; queues = subst (λ (l : List Entry). AllQueues l nodes.entities) (sym (append-nil J)) queues }
behind-from (h ∷ hs) nodes J queues =
    let s : Stepped = steps nodes h in
    let b : RunBehind J s = node-run J nodes h h.node queues in
    let later : List Entry = entries_in (journal_from s.nodes hs) in
    let rest : AllBehind (J ++ s.out.entries) s.nodes hs = behind-from hs s.nodes (J ++ s.out.entries) b.queues in
    let same : entries_in (entered_by h s.out ++ journal_from s.nodes hs) ≡ s.out.entries ++ later =
    map-append (λ (x : Entered). x.entry) (entered_by h s.out) (journal_from s.nodes hs) ∙ ap (λ (l : List Entry). l ++ later) (entries-by h s.out.entries) in
    record {
      ordered = subst (λ (l : List Entry). EachBehind IsInOrderBy J l) (sym same) (behind-append IsInOrderBy J s.out.entries later b.ordered rest.ordered);
      queues = subst (λ (l : List Entry). AllQueues (J ++ l) (nodes_behind s.nodes hs).entities) (sym same)
          (subst (λ (l : List Entry). AllQueues l (nodes_behind s.nodes hs).entities) (append_assoc J s.out.entries later) rest.queues);
    }

-- no session lives at first, at any node
pub first-queues : (J : List Entry) (es : List Declared) → AllQueues J (map entity_in es)
first-queues J [] = tt
first-queues J (e ∷ es) = (by_kind (is_daemon_type e.name.kind), first-queues J es)
  where
    by_kind : (t : Bool) → EntityQueues J (if t then OfDaemon (daemon_opening (mon_client_of e)) else OfClient (opening_whole_client (mon_client_of e)))
    by_kind true = tt
    by_kind false = record { queued = tt; apart = tt }

pub leaks-plain : (leaks : List Leak) → AllByRecursion IsPlain (entries_in (map (λ (l : Leak). record { line = l.line; reading = 0; entry = journal.Leaked l.client }) leaks))
leaks-plain [] = tt
leaks-plain (l ∷ leaks) = (tt, leaks-plain leaks)

-- of the whole journal
all-ordered : (setup : Setup) (hs : List Happening) → EachBehind IsInOrderBy [] (journal_since setup hs)
all-ordered setup hs =
    let leaks : List Entry = entries_in (leaks_entered setup) in
    let later : List Entry = entries_in (journal_from (nodes_of setup) hs) in
    subst (λ (l : List Entry). EachBehind IsInOrderBy [] l) (sym (map-append (λ (x : Entered). x.entry) (leaks_entered setup) (journal_from (nodes_of setup) hs)))
    (behind-append IsInOrderBy [] leaks later (plain-ordered leaks [] (leaks-plain setup.leaks)) (behind-from hs (nodes_of setup) leaks (first-queues leaks setup.entities)).ordered)

-- ---- the laws

module _ (P Q : List Entry → Entry → Type 0) (f : (J : List Entry) (e : Entry) → P J e → Q J e) where
  each-map : (es J : List Entry) → EachBehind P J es → EachBehind Q J es
  each-map [] J h = tt
  each-map (e ∷ es) J h = (f J e h.0, each-map es (J ++ e ∷ []) h.1)

pub all-sent-in-order : (setup : Setup) (hs : List Happening) → IsSentInOrder (journal_since setup hs)
all-sent-in-order setup hs = each-map IsInOrderBy IsSentInOrderBy (λ J e both. both.0) (journal_since setup hs) [] (all-ordered setup hs)

pub all-handled-in-order : (setup : Setup) (hs : List Happening) → IsHandledInOrder (journal_since setup hs)
all-handled-in-order setup hs = each-map IsInOrderBy IsHandledInOrderBy (λ J e both. both.1) (journal_since setup hs) [] (all-ordered setup hs)

queued-at : (J : List Entry) (e : EntityNode) → EntityQueues J e → IsQueuedAt J e
queued-at J (OfClient c) h = h.queued
queued-at J (OfDaemon d) h =
    all-map (SessionCounts J d.node.own.mon_client.name d.book.next) (λ (s : Session Authority). s.last ≡ handled_since d.node.own.mon_client.name s.number J) (λ s c. c.count) d.book.live h

pub all-queued : (setup : Setup) (hs : List Happening) → AreQueuedAt (journal_since setup hs) (nodes_behind (nodes_of setup) hs).entities
all-queued setup hs =
    let leaks : List Entry = entries_in (leaks_entered setup) in
    let nodes : Nodes = nodes_behind (nodes_of setup) hs in
    let queues = (behind-from hs (nodes_of setup) leaks (first-queues leaks setup.entities)).queues in
    all-map (EntityQueues (journal_since setup hs)) (IsQueuedAt (journal_since setup hs)) (queued-at (journal_since setup hs)) nodes.entities
    (subst (λ (l : List Entry). AllQueues l nodes.entities) (sym (map-append (λ (x : Entered). x.entry) (leaks_entered setup) (journal_from (nodes_of setup) hs))) queues)

pub schedules-in-order : (handlers : Handlers) (script : List Numbered) → IsSentInOrder (run_journal handlers script) × IsHandledInOrder (run_journal handlers script)
schedules-in-order handlers script =
    (all-sent-in-order (setup_of handlers script) (trace handlers script), all-handled-in-order (setup_of handlers script) (trace handlers script))
