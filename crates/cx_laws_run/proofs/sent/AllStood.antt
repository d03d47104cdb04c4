-- Of every list of events: a session that is resumed stood, with the same entity and cookie; an operation is handled in the session that stands; and of the sessions
-- that were opened since the daemon's last restart none other has its number and epoch.
use Rattle.std.proofs.Common.{◌≡◌, Bool, true, false, List, [], ◌∷◌, ◌++◌, map, Option, Some, None, inl, inr, ℕ, arith, refl, sym, ap, ◌∙◌, subst}
use Rattle.std.specs.Prelude.{if◌then◌else◌}
use Rattle.std.specs.List.{AllByRecursion}
use Rattle.cx_base.proofs.Names.{same_name_is}
use Rattle.cx_base.specs.Names.{Name, is_daemon_type, same_name}
use Rattle.cx_base.specs.declared.nodes.NodeName.{NodeName}
use Rattle.cx_base.specs.declared.nodes.NodeName.TheVariants as node
use Rattle.cx_journal.specs.Behind.{EachBehind}
use Rattle.cx_journal.specs.declared.entries.Entry.{Entry}
use Rattle.cx_journal.specs.declared.entries.Entry.TheVariants as journal
use Rattle.cx_laws_run.proofs.sent.Fronted.{StandsBy}
use Rattle.cx_laws_run.proofs.sent.Lives.{OnceBy}
use Rattle.cx_laws_run.proofs.sent.Stood.{AreFormer, Lives, formers-still, LivesBy, StepLives, lives-still, mute-lives, step-lives}
use Rattle.cx_laws_sessions.proofs.session.Clients.{IsMute, client-mute, mute-leaves}
use Rattle.cx_laws_sessions.proofs.session.Daemons.{daemon-comes}
use Rattle.cx_laws_sessions.proofs.session.Keeping.{step-elsewhere, step-stands}
use Rattle.cx_laws_sessions.proofs.session.Lists.{found-all, found-passes, map-append}
use Rattle.cx_laws_sessions.proofs.session.Monitors.{monitor-mute}
use Rattle.cx_laws_sessions.proofs.session.Moves.{LinksServe, StepComes}
use Rattle.cx_laws_sessions.proofs.session.Runs.{behind-append, entries-by, other-way}
use Rattle.cx_laws_sessions.proofs.session.Standing.{LeavesOf}
use Rattle.cx_words.specs.declared.choices.LeftState.{LeftState}
use Rattle.cx_rotate.specs.declared.states.KeptState.{KeptState}
use Rattle.cx_laws_sessions.specs.cx_rules.specs.Monitor.{MonitorNode}
use Rattle.cx_laws_sessions.specs.cx_rules.specs.MonitorRule.{monitor_rule}
use Rattle.cx_laws_sessions.specs.cx_rules.specs.Rows.{Outcome}
use Rattle.cx_laws_sessions.specs.cx_rules_session.specs.ClientRule.{me, opening_whole_client}
use Rattle.cx_laws_sessions.specs.cx_rules_session.specs.DaemonRule.{daemon_step}
use Rattle.cx_laws_sessions.specs.cx_rules_session.specs.IncomingLinks.{Served}
use Rattle.cx_laws_sessions.specs.cx_run.proofs.DaemonNamed.{daemon-named}
use Rattle.cx_laws_sessions.specs.cx_run.specs.Happenings.{Entered, EntityNode, OfClient, OfDaemon, Happening, Nodes, Stepped, mon_client_in, entered_by, entity_of, entity_rule, entity_steps, is_of, journal_from, monitor_steps, steps, steps_of}
use Rattle.cx_laws_sessions.specs.cx_run.specs.Opening.{Declared, Leak, Setup, mon_client_of, daemon_opening, entity_in, leaks_entered, nodes_of}
use Rattle.cx_laws_sessions.specs.cx_run.specs.Points.{journal_since}

-- ---- an entity

-- what is so of a daemon's sessions, behind this journal; a client has none
abbrev EntityLives : List Entry → EntityNode → Type 0
EntityLives J (OfClient c) = Unit {0}
EntityLives J (OfDaemon d) = Lives J d.node.own.mon_client.name d.book (λ (x : Served). LinksServe d.node.links x)

abbrev AllLive : List Entry → List EntityNode → Type 0
AllLive J entities = AllByRecursion (EntityLives J) entities

-- what is so behind a step of the entity of this name
record EntityBehind (J : List Entry) (name : Name) (o : Outcome EntityNode) : Type 0 where
  each : EachBehind LivesBy J o.out.entries
  elsewhere : (other : Name) → same_name name other ≡ false → AllByRecursion (LeavesOf other) o.out.entries
  lives : EntityLives (J ++ o.out.entries) o.state

entity-behind : (nodes : Nodes) (h : Happening) (J : List Entry) (e : EntityNode) → EntityLives J e
    → EntityBehind J (mon_client_in e).name (entity_rule nodes.handlers e h.input h.reading h.draw)
entity-behind nodes h J (OfClient c) lives =
    let mute = client-mute c h.input h.reading h.draw in
    record {
      each = mute-lives (me c.own) _ J mute;
      elsewhere = λ other apart. mute-leaves (me c.own) other apart _ mute;
      lives = tt;
    }
entity-behind nodes h J (OfDaemon d) lives =
    let o = daemon_step nodes.handlers d h.input h.reading h.draw in
    let name : Name = d.node.own.mon_client.name in
    let had : Served → Type 0 = λ x. LinksServe d.node.links x in
    let has : Served → Type 0 = λ x. LinksServe o.state.node.links x in
    let comes : StepComes nodes.handlers name d.book had has o.out.entries o.state.book = daemon-comes nodes.handlers d h.input h.reading h.draw in
    let kept : StepLives J o.out.entries name o.state.book.next = step-lives nodes.handlers name J d.book o.state.book had has o.out.entries lives comes in
    record {
      each = kept.each;
      elsewhere = λ other apart. step-elsewhere nodes.handlers name other apart d.book o.state.book had has o.out.entries comes;
      lives = subst (λ (n : Name). Lives (J ++ o.out.entries) n o.state.book has) (sym (daemon-named nodes.handlers d h.input h.reading h.draw))
          (record { stands = step-stands nodes.handlers name J d.book o.state.book had has o.out.entries lives.stands comes; former = kept.former });
    }

-- entries that leave an entity's sessions
left-lives : (J es : List Entry) (e : EntityNode) → AllByRecursion (LeavesOf (mon_client_in e).name) es → EntityLives J e → EntityLives (J ++ es) e
left-lives J es (OfClient c) leaves lives = tt
left-lives J es (OfDaemon d) leaves lives = lives-still J es d.node.own.mon_client.name d.book (λ (x : Served). LinksServe d.node.links x) leaves lives

-- ---- all entities

-- what is so behind a step of any node
record RunBehind (J : List Entry) (s : Stepped) : Type 0 where
  each : EachBehind LivesBy J s.out.entries
  lives : AllLive (J ++ s.out.entries) s.nodes.entities

all-left : (J es : List Entry) (entities : List EntityNode) → ((daemon : Name) → AllByRecursion (LeavesOf daemon) es) → AllLive J entities → AllLive (J ++ es) entities
all-left J es [] leaves live = tt
all-left J es (e ∷ entities) leaves live = (left-lives J es e (leaves (mon_client_in e).name) live.0, all-left J es entities leaves live.1)

replaced-lives : (J es : List Entry) (name : Name) (new : EntityNode) → EntityLives (J ++ es) new → ((other : Name) → same_name name other ≡ false → AllByRecursion (LeavesOf other) es)
    → (entities : List EntityNode) → AllLive J entities → AllLive (J ++ es) (map (λ (e : EntityNode). if is_of name e then new else e) entities)
replaced-lives J es name new lives elsewhere [] h = tt
replaced-lives J es name new lives elsewhere (e ∷ entities) h = (by_test (is_of name e) refl, replaced-lives J es name new lives elsewhere entities h.1)
  where
    by_test : (t : Bool) → is_of name e ≡ t → EntityLives (J ++ es) (if t then new else e)
    by_test true same = lives
    by_test false apart = left-lives J es e (elsewhere (mon_client_in e).name (other-way name (mon_client_in e).name apart)) h.0

entity-run : (J : List Entry) (nodes : Nodes) (h : Happening) (name : Name) (found : Option EntityNode) → entity_of name nodes ≡ found → AllLive J nodes.entities
    → RunBehind J (entity_steps nodes h name found)
entity-run J nodes h name None is live = record { each = tt; lives = all-left J [] nodes.entities (λ daemon. tt) live }
entity-run J nodes h name (Some e) is live =
    let o : Outcome EntityNode = entity_rule nodes.handlers e h.input h.reading h.draw in
    let named : (mon_client_in e).name ≡ name = same_name_is (mon_client_in e).name name (found-passes (is_of name) nodes.entities e is) in
    let b : EntityBehind J (mon_client_in e).name o = entity-behind nodes h J e (found-all (EntityLives J) (is_of name) nodes.entities e live is) in
    let elsewhere : (other : Name) → same_name name other ≡ false → AllByRecursion (LeavesOf other) o.out.entries =
    λ other apart. b.elsewhere other (ap (λ (n : Name). same_name n other) named ∙ apart) in
    record { each = b.each; lives = replaced-lives J o.out.entries name o.state b.lives elsewhere nodes.entities live }

monitor-run : (J : List Entry) (nodes : Nodes) (h : Happening) → AllLive J nodes.entities
    → let o = monitor_rule nodes.monitor h.input h.reading h.draw in RunBehind J (monitor_steps nodes o h.left o.out.save)
monitor-run J nodes h live =
    let o : Outcome MonitorNode = monitor_rule nodes.monitor h.input h.reading h.draw in
    by_save o h.left o.out.save (monitor-mute nodes h.input h.reading h.draw h.left)
  where
    by_save : (o : Outcome MonitorNode) (l : Option LeftState) (saved : Option KeptState) →
        let es = (monitor_steps nodes o l saved).out.entries in
        AllByRecursion (IsMute node.Monitor) es → RunBehind J (monitor_steps nodes o l saved)
    by_save o (Some l) (Some saved) mute = record { each = tt; lives = all-left J [] nodes.entities (λ daemon. tt) live }
    by_save o None saved mute = record {
      each = mute-lives node.Monitor o.out.entries J mute;
      lives = all-left J o.out.entries nodes.entities (λ daemon. mute-leaves node.Monitor daemon refl o.out.entries mute) live;
    }
    by_save o (Some l) None mute = record {
      each = mute-lives node.Monitor o.out.entries J mute;
      lives = all-left J o.out.entries nodes.entities (λ daemon. mute-leaves node.Monitor daemon refl o.out.entries mute) live;
    }

node-run : (J : List Entry) (nodes : Nodes) (h : Happening) (n : NodeName) → AllLive J nodes.entities → RunBehind J (steps_of nodes h n)
node-run J nodes h node.Monitor live = monitor-run J nodes h live
node-run J nodes h (node.Entity name) live = entity-run J nodes h name (entity_of name nodes) refl live

-- ---- every list of events

each-from : (hs : List Happening) (nodes : Nodes) (J : List Entry) → AllLive J nodes.entities → EachBehind LivesBy J (map (λ (x : Entered). x.entry) (journal_from nodes hs))
each-from [] nodes J live = tt
each-from (h ∷ hs) nodes J live =
    let s : Stepped = steps nodes h in
    let b : RunBehind J s = node-run J nodes h h.node live in
    let later : List Entry = map (λ (x : Entered). x.entry) (journal_from s.nodes hs) in
    let same : map (λ (x : Entered). x.entry) (entered_by h s.out ++ journal_from s.nodes hs) ≡ s.out.entries ++ later =
    map-append (λ (x : Entered). x.entry) (entered_by h s.out) (journal_from s.nodes hs) ∙ ap (λ (l : List Entry). l ++ later) (entries-by h s.out.entries) in
    subst (λ (l : List Entry). EachBehind LivesBy J l) (sym same) (behind-append LivesBy J s.out.entries later b.each (each-from hs s.nodes (J ++ s.out.entries) b.lives))

abbrev leaked_entries : List Leak → List Entry
leaked_entries leaks = map (λ (x : Entered). x.entry) (map (λ (l : Leak). record { line = l.line; reading = 0; entry = journal.Leaked l.client }) leaks)

leaks-leave : (daemon : Name) (leaks : List Leak) → AllByRecursion (LeavesOf daemon) (leaked_entries leaks)
leaks-leave daemon [] = tt
leaks-leave daemon (l ∷ leaks) = ((λ number. refl), leaks-leave daemon leaks)

leaks-each : (J : List Entry) (leaks : List Leak) → EachBehind LivesBy J (leaked_entries leaks)
leaks-each J [] = tt
leaks-each J (l ∷ leaks) = (record { stands = tt; once = tt }, leaks-each (J ++ journal.Leaked l.client ∷ []) leaks)

none-former : (name : Name) (next : ℕ) → AreFormer [] name next
none-former name next s (inl has) its = absurd (omega (arith, has.1))
none-former name next s (inr has) its = absurd (omega (arith, has.1))

-- no session lives at first
first-live : (leaks : List Leak) (es : List Declared) → AllLive (leaked_entries leaks) (map entity_in es)
first-live leaks [] = tt
first-live leaks (e ∷ es) = (by_kind (is_daemon_type e.name.kind), first-live leaks es)
  where
    by_kind : (t : Bool) → EntityLives (leaked_entries leaks) (if t then OfDaemon (daemon_opening (mon_client_of e)) else OfClient (opening_whole_client (mon_client_of e)))
    by_kind true = record {
      stands = record { sessions = tt; served = λ x here. absurd here };
      former = formers-still [] (leaked_entries leaks) (mon_client_of e).name 1 1 (omega arith) (leaks-leave (mon_client_of e).name leaks) (none-former (mon_client_of e).name 1);
    }
    by_kind false = tt

all-live : (setup : Setup) (hs : List Happening) → EachBehind LivesBy [] (journal_since setup hs)
all-live setup hs =
    let leaks : List Entry = map (λ (x : Entered). x.entry) (leaks_entered setup) in
    let later : List Entry = map (λ (x : Entered). x.entry) (journal_from (nodes_of setup) hs) in
    subst (λ (l : List Entry). EachBehind LivesBy [] l) (sym (map-append (λ (x : Entered). x.entry) (leaks_entered setup) (journal_from (nodes_of setup) hs)))
    (behind-append LivesBy [] leaks later (leaks-each [] setup.leaks) (each-from hs (nodes_of setup) leaks (first-live setup.leaks setup.entities)))

module _ (P Q : List Entry → Entry → Type 0) (f : (J : List Entry) (e : Entry) → P J e → Q J e) where
  pub each-map : (es J : List Entry) → EachBehind P J es → EachBehind Q J es
  each-map [] J h = tt
  each-map (e ∷ es) J h = (f J e h.0, each-map es (J ++ e ∷ []) h.1)

pub all-stand : (setup : Setup) (hs : List Happening) → EachBehind StandsBy [] (journal_since setup hs)
all-stand setup hs = each-map LivesBy StandsBy (λ J e l. l.stands) (journal_since setup hs) [] (all-live setup hs)

pub all-once : (setup : Setup) (hs : List Happening) → EachBehind OnceBy [] (journal_since setup hs)
all-once setup hs = each-map LivesBy OnceBy (λ J e l. l.once) (journal_since setup hs) [] (all-live setup hs)
