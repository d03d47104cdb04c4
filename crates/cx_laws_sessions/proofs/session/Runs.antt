-- Of every list of events: each operation of the journal is handled in session, and as the caps of that session and the handlers say.
use Rattle.std.proofs.Common.{◌≡◌, Bool, true, false, List, [], ◌∷◌, ◌++◌, map, Option, Some, None, refl, sym, ap, ◌∙◌, subst}
use Rattle.std.proofs.lemmas.List.{append-nil, append_assoc}
use Rattle.std.specs.Prelude.{if◌then◌else◌}
use Rattle.std.specs.List.{AllByRecursion}
use Rattle.cx_base.proofs.Names.{same_name_is, same_name_self}
use Rattle.cx_base.specs.Names.{Name, is_daemon_type, same_name}
use Rattle.cx_base.specs.declared.nodes.NodeName.{NodeName}
use Rattle.cx_base.specs.declared.nodes.NodeName.TheVariants as node
use Rattle.cx_desk.specs.Handlers.{Handlers}
use Rattle.cx_journal.specs.Behind.{EachBehind}
use Rattle.cx_journal.specs.Enforced.{IsEnforced, IsEnforcedBy}
use Rattle.cx_journal.specs.InSession.{IsInSession, IsInSessionBy}
use Rattle.cx_journal.specs.declared.entries.Entry.{Entry}
use Rattle.cx_journal.specs.declared.entries.Entry.TheVariants as journal
use Rattle.cx_words.specs.declared.choices.LeftState.{LeftState}
use Rattle.cx_run.specs.cx_lines.specs.declared.lines.Numbered.{Numbered}
use Rattle.cx_rotate.specs.declared.states.KeptState.{KeptState}
use Rattle.cx_run.specs.cx_rules.specs.Monitor.{MonitorNode}
use Rattle.cx_run.specs.cx_rules.specs.MonitorRule.{monitor_rule}
use Rattle.cx_run.specs.cx_rules.specs.Rows.{Outcome}
use Rattle.cx_run.specs.cx_rules_session.specs.ClientRule.{me, opening_whole_client}
use Rattle.cx_run.specs.cx_rules_session.specs.DaemonRule.{daemon_step}
use Rattle.cx_run.specs.cx_rules_session.specs.IncomingLinks.{Served}
use Rattle.cx_run.proofs.DaemonNamed.{daemon-named}
use Rattle.cx_run.proofs.SetUp.{handlers-stay}
use Rattle.cx_run.specs.Happenings.{Entered, EntityNode, OfClient, OfDaemon, Happening, Nodes, Stepped, mon_client_in, entered_by, entity_of, entity_rule, entity_steps, is_of, journal_from, monitor_steps, steps, steps_of}
use Rattle.cx_run.specs.Opening.{Declared, Leak, Setup, mon_client_of, daemon_opening, entity_in, leaks_entered, nodes_of}
use Rattle.cx_run.specs.Points.{journal_since}
use Rattle.cx_run.specs.Runs.{run_journal, setup_of, trace}
use Rattle.cx_laws_sessions.specs.session.Serving.{serves}
use Rattle.cx_laws_sessions.proofs.session.Clients.{IsMute, client-mute, mute-enforced, mute-leaves}
use Rattle.cx_laws_sessions.proofs.session.Daemons.{daemon-comes}
use Rattle.cx_laws_sessions.proofs.session.Keeping.{Stands, same-book, stands-still, step-elsewhere, step-enforced, step-stands}
use Rattle.cx_laws_sessions.proofs.session.Lists.{found-all, found-passes, map-append}
use Rattle.cx_laws_sessions.proofs.session.Monitors.{monitor-mute}
use Rattle.cx_laws_sessions.proofs.session.Moves.{LinksServe, StepComes}
use Rattle.cx_laws_sessions.proofs.session.Standing.{LeavesOf}

-- ---- an entity

-- what is so of a daemon's sessions, behind this journal; a client has none
abbrev EntityStands : List Entry → EntityNode → Type 0
EntityStands J (OfClient c) = Unit {0}
EntityStands J (OfDaemon d) = Stands J d.node.own.mon_client.name d.book (λ (x : Served). LinksServe d.node.links x)

abbrev AllStand : List Entry → List EntityNode → Type 0
AllStand J entities = AllByRecursion (EntityStands J) entities

-- what is so behind a step of the entity of this name: its entries keep the law and leave the sessions of each other entity
record EntityBehind (handlers : Handlers) (J : List Entry) (name : Name) (o : Outcome EntityNode) : Type 0 where
  enforced : EachBehind (IsEnforcedBy (serves handlers)) J o.out.entries
  elsewhere : (other : Name) → same_name name other ≡ false → AllByRecursion (LeavesOf other) o.out.entries
  stands : EntityStands (J ++ o.out.entries) o.state

entity-behind : (nodes : Nodes) (h : Happening) (J : List Entry) (e : EntityNode) → EntityStands J e
    → EntityBehind nodes.handlers J (mon_client_in e).name (entity_rule nodes.handlers e h.input h.reading h.draw)
entity-behind nodes h J (OfClient c) stands =
    let mute = client-mute c h.input h.reading h.draw in
    record {
      enforced = mute-enforced nodes.handlers (me c.own) _ J mute;
      elsewhere = λ other apart. mute-leaves (me c.own) other apart _ mute;
      stands = tt;
    }
entity-behind nodes h J (OfDaemon d) stands =
    let o = daemon_step nodes.handlers d h.input h.reading h.draw in
    let name : Name = d.node.own.mon_client.name in
    let had : Served → Type 0 = λ x. LinksServe d.node.links x in
    let has : Served → Type 0 = λ x. LinksServe o.state.node.links x in
    let comes : StepComes nodes.handlers name d.book had has o.out.entries o.state.book = daemon-comes nodes.handlers d h.input h.reading h.draw in
    record {
      enforced = step-enforced nodes.handlers name J d.book o.state.book had has o.out.entries stands comes;
      elsewhere = λ other apart. step-elsewhere nodes.handlers name other apart d.book o.state.book had has o.out.entries comes;
      stands = subst (λ (n : Name). Stands (J ++ o.out.entries) n o.state.book has) (sym (daemon-named nodes.handlers d h.input h.reading h.draw))
          (step-stands nodes.handlers name J d.book o.state.book had has o.out.entries stands comes);
    }

-- entries that leave an entity's sessions
left-stands : (J es : List Entry) (e : EntityNode) → AllByRecursion (LeavesOf (mon_client_in e).name) es → EntityStands J e → EntityStands (J ++ es) e
left-stands J es (OfClient c) leaves stands = tt
left-stands J es (OfDaemon d) leaves stands =
    let has : Served → Type 0 = λ x. LinksServe d.node.links x in
    stands-still J es d.node.own.mon_client.name d.book d.book has has leaves (same-book d.book) (λ x was. was) stands

pub other-way : (a b : Name) → same_name b a ≡ false → same_name a b ≡ false
other-way a b apart = by_test (same_name a b) refl
  where
    by_test : (t : Bool) → same_name a b ≡ t → t ≡ false
    by_test true is =
        let same : a ≡ b = same_name_is a b is in
        let itself : same_name b a ≡ true = ap (λ (n : Name). same_name b n) same ∙ same_name_self b in
        absurd (let e : true ≡ false = sym itself ∙ apart in cc)
    by_test false is = refl

-- ---- all entities

-- what is so behind a step of any node
record RunBehind (J : List Entry) (handlers : Handlers) (s : Stepped) : Type 0 where
  enforced : EachBehind (IsEnforcedBy (serves handlers)) J s.out.entries
  stands : AllStand (J ++ s.out.entries) s.nodes.entities
  handlers_stay : s.nodes.handlers ≡ handlers

all-left : (J es : List Entry) (entities : List EntityNode) → ((daemon : Name) → AllByRecursion (LeavesOf daemon) es) → AllStand J entities → AllStand (J ++ es) entities
all-left J es [] leaves stand = tt
all-left J es (e ∷ entities) leaves stand = (left-stands J es e (leaves (mon_client_in e).name) stand.0, all-left J es entities leaves stand.1)

replaced-stand : (J es : List Entry) (name : Name) (new : EntityNode) → EntityStands (J ++ es) new → ((other : Name) → same_name name other ≡ false → AllByRecursion (LeavesOf other) es)
    → (entities : List EntityNode) → AllStand J entities → AllStand (J ++ es) (map (λ (e : EntityNode). if is_of name e then new else e) entities)
replaced-stand J es name new stands elsewhere [] h = tt
replaced-stand J es name new stands elsewhere (e ∷ entities) h = (by_test (is_of name e) refl, replaced-stand J es name new stands elsewhere entities h.1)
  where
    by_test : (t : Bool) → is_of name e ≡ t → EntityStands (J ++ es) (if t then new else e)
    by_test true same = stands
    by_test false apart = left-stands J es e (elsewhere (mon_client_in e).name (other-way name (mon_client_in e).name apart)) h.0

entity-run : (J : List Entry) (nodes : Nodes) (h : Happening) (name : Name) (found : Option EntityNode) → entity_of name nodes ≡ found → AllStand J nodes.entities
    → RunBehind J nodes.handlers (entity_steps nodes h name found)
entity-run J nodes h name None is stand = record {
  enforced = tt;
  stands = all-left J [] nodes.entities (λ daemon. tt) stand;
  handlers_stay = refl;
}
entity-run J nodes h name (Some e) is stand =
    let o : Outcome EntityNode = entity_rule nodes.handlers e h.input h.reading h.draw in
    let named : (mon_client_in e).name ≡ name = same_name_is (mon_client_in e).name name (found-passes (is_of name) nodes.entities e is) in
    let b : EntityBehind nodes.handlers J (mon_client_in e).name o = entity-behind nodes h J e (found-all (EntityStands J) (is_of name) nodes.entities e stand is) in
    let elsewhere : (other : Name) → same_name name other ≡ false → AllByRecursion (LeavesOf other) o.out.entries =
    λ other apart. b.elsewhere other (ap (λ (n : Name). same_name n other) named ∙ apart) in
    record {
      enforced = b.enforced;
      stands = replaced-stand J o.out.entries name o.state b.stands elsewhere nodes.entities stand;
      handlers_stay = refl;
    }

monitor-run : (J : List Entry) (nodes : Nodes) (h : Happening) → AllStand J nodes.entities
    → let o = monitor_rule nodes.monitor h.input h.reading h.draw in RunBehind J nodes.handlers (monitor_steps nodes o h.left o.out.save)
monitor-run J nodes h stand =
    let o : Outcome MonitorNode = monitor_rule nodes.monitor h.input h.reading h.draw in
    by_save o h.left o.out.save (monitor-mute nodes h.input h.reading h.draw h.left)
  where
    by_save : (o : Outcome MonitorNode) (l : Option LeftState) (saved : Option KeptState) →
        let es = (monitor_steps nodes o l saved).out.entries in
        AllByRecursion (IsMute node.Monitor) es → RunBehind J nodes.handlers (monitor_steps nodes o l saved)
    by_save o (Some l) (Some saved) mute = record { enforced = tt; stands = all-left J [] nodes.entities (λ daemon. tt) stand; handlers_stay = refl }
    by_save o None saved mute = record {
      enforced = mute-enforced nodes.handlers node.Monitor o.out.entries J mute;
      stands = all-left J o.out.entries nodes.entities (λ daemon. mute-leaves node.Monitor daemon refl o.out.entries mute) stand;
      handlers_stay = refl;
    }
    by_save o (Some l) None mute = record {
      enforced = mute-enforced nodes.handlers node.Monitor o.out.entries J mute;
      stands = all-left J o.out.entries nodes.entities (λ daemon. mute-leaves node.Monitor daemon refl o.out.entries mute) stand;
      handlers_stay = refl;
    }

node-run : (J : List Entry) (nodes : Nodes) (h : Happening) (n : NodeName) → AllStand J nodes.entities → RunBehind J nodes.handlers (steps_of nodes h n)
node-run J nodes h node.Monitor stand = monitor-run J nodes h stand
node-run J nodes h (node.Entity name) stand = entity-run J nodes h name (entity_of name nodes) refl stand

-- ---- every list of events

-- the law of all, behind some
pub behind-append : (P : List Entry → Entry → Type 0) (J xs ys : List Entry) → EachBehind P J xs → EachBehind P (J ++ xs) ys → EachBehind P J (xs ++ ys)
behind-append P J [] ys h g = subst (λ (l : List Entry). EachBehind P l ys) (append-nil J) g
behind-append P J (x ∷ xs) ys h g =
    (h.0, behind-append P (J ++ x ∷ []) xs ys h.1 (subst (λ (l : List Entry). EachBehind P l ys) (sym (append_assoc J (x ∷ []) xs)) g))

pub entries-by : (h : Happening) (es : List Entry)
    → map (λ (x : Entered). x.entry) (map (λ (e : Entry). record { line = h.line; reading = h.reading; entry = e }) es) ≡ es
entries-by h [] = refl
entries-by h (e ∷ es) = ap (λ (l : List Entry). e ∷ l) (entries-by h es)

enforced-from : (hs : List Happening) (nodes : Nodes) (J : List Entry) → AllStand J nodes.entities
    → EachBehind (IsEnforcedBy (serves nodes.handlers)) J (map (λ (x : Entered). x.entry) (journal_from nodes hs))
enforced-from [] nodes J stand = tt
enforced-from (h ∷ hs) nodes J stand =
    let s : Stepped = steps nodes h in
    let b : RunBehind J nodes.handlers s = node-run J nodes h h.node stand in
    let later : List Entry = map (λ (x : Entered). x.entry) (journal_from s.nodes hs) in
    let rest : EachBehind (IsEnforcedBy (serves nodes.handlers)) (J ++ s.out.entries) later =
    subst (λ (has : Handlers). EachBehind (IsEnforcedBy (serves has)) (J ++ s.out.entries) later) b.handlers_stay (enforced-from hs s.nodes (J ++ s.out.entries) b.stands) in
    let same : map (λ (x : Entered). x.entry) (entered_by h s.out ++ journal_from s.nodes hs) ≡ s.out.entries ++ later =
    map-append (λ (x : Entered). x.entry) (entered_by h s.out) (journal_from s.nodes hs) ∙ ap (λ (l : List Entry). l ++ later) (entries-by h s.out.entries) in
    subst (λ (l : List Entry). EachBehind (IsEnforcedBy (serves nodes.handlers)) J l) (sym same)
    (behind-append (IsEnforcedBy (serves nodes.handlers)) J s.out.entries later b.enforced rest)

-- no session lives at first
first-stand : (J : List Entry) (es : List Declared) → AllStand J (map entity_in es)
first-stand J [] = tt
first-stand J (e ∷ es) = (by_kind (is_daemon_type e.name.kind), first-stand J es)
  where
    by_kind : (t : Bool) → EntityStands J (if t then OfDaemon (daemon_opening (mon_client_of e)) else OfClient (opening_whole_client (mon_client_of e)))
    by_kind true = record { sessions = tt; served = λ x here. absurd here }
    by_kind false = tt

leaks-enforced : (handlers : Handlers) (J : List Entry) (leaks : List Leak)
    → EachBehind (IsEnforcedBy (serves handlers)) J (map (λ (x : Entered). x.entry) (map (λ (l : Leak). record { line = l.line; reading = 0; entry = journal.Leaked l.client }) leaks))
leaks-enforced handlers J [] = tt
leaks-enforced handlers J (l ∷ leaks) = (tt, leaks-enforced handlers (J ++ journal.Leaked l.client ∷ []) leaks)

pub all-enforced : (setup : Setup) (hs : List Happening) → IsEnforced (serves setup.handlers) (journal_since setup hs)
all-enforced setup hs =
    let leaks : List Entry = map (λ (x : Entered). x.entry) (leaks_entered setup) in
    let later : List Entry = map (λ (x : Entered). x.entry) (journal_from (nodes_of setup) hs) in
    subst (λ (l : List Entry). EachBehind (IsEnforcedBy (serves setup.handlers)) [] l) (sym (map-append (λ (x : Entered). x.entry) (leaks_entered setup) (journal_from (nodes_of setup) hs)))
    (behind-append (IsEnforcedBy (serves setup.handlers)) [] leaks later (leaks-enforced setup.handlers [] setup.leaks)
    (enforced-from hs (nodes_of setup) leaks (first-stand leaks setup.entities)))

-- what is handled as the caps of its session say is handled in that session
sessions-behind : (handlers : Handlers) (es J : List Entry) → EachBehind (IsEnforcedBy (serves handlers)) J es → EachBehind IsInSessionBy J es
sessions-behind handlers [] J h = tt
sessions-behind handlers (e ∷ es) J h = (one e h.0, sessions-behind handlers es (J ++ e ∷ []) h.1)
  where
    one : (e : Entry) → IsEnforcedBy (serves handlers) J e → IsInSessionBy J e
    one (journal.Handled handled) r = (r.session, r.handled_in)
    one _ r = tt

pub all-in-session : (setup : Setup) (hs : List Happening) → IsInSession (journal_since setup hs)
all-in-session setup hs = sessions-behind setup.handlers (journal_since setup hs) [] (all-enforced setup hs)

pub schedules-in-session : (handlers : Handlers) (script : List Numbered) → IsInSession (run_journal handlers script) × IsEnforced (serves handlers) (run_journal handlers script)
schedules-in-session handlers script = (
  all-in-session (setup_of handlers script) (trace handlers script),
  subst (λ (has : Handlers). IsEnforced (serves has) (run_journal handlers script)) (handlers-stay handlers script) (all-enforced (setup_of handlers script) (trace handlers script)),
)
