-- Each look of a run is at what the daemon fetched last.
use Rattle.std.proofs.Common.{◌≡◌, Bool, true, false, List, [], ◌∷◌, ◌++◌, map, Option, Some, None, refl, sym, ap, ◌∙◌, subst}
use Rattle.std.specs.Prelude.{if◌then◌else◌}
use Rattle.std.specs.List.{AllByRecursion}
use Rattle.cx_base.proofs.Names.{same_name_is}
use Rattle.cx_base.specs.Names.{Name, is_daemon_type}
use Rattle.cx_base.specs.declared.nodes.NodeName.{NodeName}
use Rattle.cx_base.specs.declared.nodes.NodeName.TheVariants as node
use Rattle.cx_journal.specs.Behind.{EachBehind}
use Rattle.cx_journal.specs.declared.entries.Entry.{Entry}
use Rattle.cx_journal.specs.declared.entries.Entry.TheVariants as journal
use Rattle.cx_rotate.specs.declared.views.View.{View}
use Rattle.cx_laws_links.specs.cx_laws_tickets.specs.cx_rules_session.specs.ClientRule.{opening_whole_client}
use Rattle.cx_rotate.specs.declared.states.KeptState.{KeptState}
use Rattle.cx_words.specs.declared.choices.LeftState.{LeftState}
use Rattle.cx_laws_links.specs.cx_laws_tickets.specs.cx_rules.specs.Monitor.{MonitorNode}
use Rattle.cx_laws_links.specs.cx_laws_tickets.specs.cx_rules.specs.MonitorRule.{monitor_rule}
use Rattle.cx_laws_links.specs.cx_laws_tickets.specs.cx_rules.specs.Rows.{Outcome}
use Rattle.cx_laws_links.specs.cx_laws_tickets.specs.cx_run.proofs.EntityNamed.{entity-named}
use Rattle.cx_laws_links.specs.cx_laws_tickets.specs.cx_run.specs.Happenings.{Entered, EntityNode, OfClient, OfDaemon, Happening, Nodes, Stepped, mon_client_in, entered_by, entity_of, entity_rule, entity_steps, is_of, journal_from, monitor_steps, steps, steps_of}
use Rattle.cx_laws_links.specs.cx_laws_tickets.specs.cx_run.specs.Opening.{Declared, Leak, Setup, mon_client_of, daemon_opening, entity_in, leaks_entered, nodes_of}
use Rattle.cx_laws_links.specs.cx_laws_tickets.specs.cx_run.specs.Points.{journal_since}
use Rattle.cx_laws_links.specs.cx_laws_tickets.proofs.authorize.Viewing.{daemon-shows}
use Rattle.cx_laws_links.specs.cx_laws_tickets.specs.cx_run.specs.Visits.{AreUntold, IsNoLook}
use Rattle.cx_laws_links.specs.cx_laws_tickets.specs.cx_rules.proofs.MonitorEnters.{IsOfMonitor}
use Rattle.cx_laws_links.specs.cx_laws_tickets.specs.cx_run.proofs.MonitorEnters.{monitor-enters}
use Rattle.cx_laws_links.specs.cx_laws_tickets.specs.cx_laws_keys.proofs.keys.Journal.{entered}
use Rattle.cx_laws_links.specs.cx_laws_tickets.specs.cx_laws_keys.proofs.keys.Lists.{all-map, found_all, found_passes, map-append}
use Rattle.cx_laws_links.specs.cx_laws_tickets.specs.cx_laws_keys.proofs.keys.Viewing.{ShowsAlong, ShowsNone, all-none-look, none-shown, shows-elsewhere, shows-last, shows-looks, viewed-append}
use Rattle.cx_laws_links.specs.cx_laws_tickets.specs.cx_laws_keys.specs.keys.LooksLast.{LooksLast, LooksLastBy, nothing_viewed, view_behind, viewed_all}
use Rattle.cx_laws_links.specs.cx_laws_tickets.proofs.calling.Entering.{whole-enters}
use Rattle.cx_laws_run.proofs.run.Events.{entered-append, entries-by}
use Rattle.cx_laws_run.proofs.run.Journals.{behind-append}

-- an entity's view is what it fetched last
ViewIs : List Entry → EntityNode → Type 0
ViewIs J e = (mon_client_in e).view ≡ view_behind (mon_client_in e).name J

AllViews : List Entry → List EntityNode → Type 0
AllViews J es = AllByRecursion (ViewIs J) es

-- what is so behind a step: its looks keep the law, and so are all views
record LooksBehind (J : List Entry) (s : Stepped) : Type 0 where
  looks : EachBehind LooksLastBy J s.out.entries
  views : AllViews (J ++ s.out.entries) s.nodes.entities

-- ---- an entity

-- what an entity enters tells its view
entity-shows : (nodes : Nodes) (h : Happening) (e : EntityNode) → IsNoLook h.input →
    let o = entity_rule nodes.handlers e h.input h.reading h.draw in ShowsAlong (mon_client_in e).name (mon_client_in e).view o.out.entries (mon_client_in o.state).view
entity-shows nodes h (OfClient c) looks = (whole-enters c h.input h.reading h.draw).shows
entity-shows nodes h (OfDaemon d) looks = daemon-shows nodes.handlers d h.input h.reading h.draw looks

module _ (J es : List Entry) (name : Name) (view last : View) (entity : EntityNode) (shows : ShowsAlong name view es last) (here : view ≡ view_behind name J) where
  -- behind what it enters
  last-is : view_behind name (J ++ es) ≡ last
  last-is = viewed-append name nothing_viewed J es ∙ ap (λ (v : View). viewed_all name v es) (sym here) ∙ shows-last name view es last shows

  module _ (named : (mon_client_in entity).name ≡ name) (viewed : (mon_client_in entity).view ≡ last) where
    behind-it : ViewIs (J ++ es) entity
    unfolding ViewIs
    behind-it = viewed ∙ sym last-is ∙ ap (λ (n : Name). view_behind n (J ++ es)) (sym named)

    others-stay : (e : EntityNode) (t : Bool) → is_of name e ≡ t → ViewIs J e → ViewIs (J ++ es) (if t then entity else e)
    unfolding ViewIs
    others-stay e true is h = behind-it
    others-stay e false is h =
        h ∙ sym (viewed-append (mon_client_in e).name nothing_viewed J es ∙ shows-elsewhere name (mon_client_in e).name view (view_behind (mon_client_in e).name J) es last is shows)

    all-stay : (entities : List EntityNode) → AllViews J entities → AllViews (J ++ es) (map (λ (e : EntityNode). if is_of name e then entity else e) entities)
    unfolding AllViews
    all-stay [] h = tt
    all-stay (e ∷ entities) h = (others-stay e (is_of name e) refl h.0, all-stay entities h.1)

none-stay : (J : List Entry) (entities : List EntityNode) → AllViews J entities → AllViews (J ++ []) entities
unfolding AllViews ViewIs
none-stay J [] h = tt
none-stay J (e ∷ entities) h = (h.0 ∙ sym (viewed-append (mon_client_in e).name nothing_viewed J []), none-stay J entities h.1)

shown-stay : (J es : List Entry) (entities : List EntityNode) → AllByRecursion ShowsNone es → AllViews J entities → AllViews (J ++ es) entities
unfolding AllViews ViewIs
shown-stay J es [] none h = tt
shown-stay J es (e ∷ entities) none h = (
  h.0 ∙ sym (viewed-append (mon_client_in e).name nothing_viewed J es ∙ none-shown (mon_client_in e).name (view_behind (mon_client_in e).name J) es none),
  shown-stay J es entities none h.1,
)

entity-looks : (J : List Entry) (nodes : Nodes) (h : Happening) (name : Name) (found : Option EntityNode) → entity_of name nodes ≡ found → IsNoLook h.input
    → AllViews J nodes.entities → LooksBehind J (entity_steps nodes h name found)
unfolding ViewIs AllViews
entity-looks J nodes h name None is looks views = record { looks = tt; views = none-stay J nodes.entities views }
entity-looks J nodes h name (Some e) is looks views =
    subst (λ (n : Name). LooksBehind J (entity_steps nodes h n (Some e))) named (record {
      looks = shows-looks (mon_client_in e).name (mon_client_in e).view J o.out.entries (mon_client_in o.state).view here shows;
      views = all-stay J o.out.entries (mon_client_in e).name (mon_client_in e).view (mon_client_in o.state).view o.state shows here (entity-named nodes.handlers e h.input h.reading h.draw) refl nodes.entities views;
    })
  where
    o : Outcome EntityNode
    o = entity_rule nodes.handlers e h.input h.reading h.draw

    named : (mon_client_in e).name ≡ name
    named = same_name_is (mon_client_in e).name name (found_passes (is_of name) nodes.entities e is)

    here : (mon_client_in e).view ≡ view_behind (mon_client_in e).name J
    here = found_all (ViewIs J) (is_of name) nodes.entities e views is

    shows : ShowsAlong (mon_client_in e).name (mon_client_in e).view o.out.entries (mon_client_in o.state).view
    shows = entity-shows nodes h e looks

-- ---- any node

-- the monitor enters no look, and tells no view
monitor-shows : (e : Entry) → IsOfMonitor e → ShowsNone e
monitor-shows (journal.Saved x) h = tt
monitor-shows (journal.Issued x) h = tt
monitor-shows (journal.Fetched x) h = absurd h
monitor-shows (journal.Looked x) h = absurd h
monitor-shows (journal.Admitted x) h = absurd h
monitor-shows (journal.Resumed x) h = absurd h
monitor-shows (journal.Sent x) h = absurd h
monitor-shows (journal.Handled x) h = absurd h
monitor-shows (journal.Answered x) h = absurd h
monitor-shows (journal.Refused x) h = tt
monitor-shows (journal.Ended x) h = absurd h
monitor-shows (journal.Restarted x) h = h
monitor-shows (journal.Broken x) h = absurd h
monitor-shows (journal.Leaked x) h = absurd h

pub same-entities : (nodes : Nodes) (o : Outcome MonitorNode) (l : Option LeftState) (saved : Option KeptState) → (monitor_steps nodes o l saved).nodes.entities ≡ nodes.entities
same-entities nodes o (Some l) (Some saved) = refl
same-entities nodes o None saved = refl
same-entities nodes o (Some l) None = refl

node-looks : (J : List Entry) (nodes : Nodes) (h : Happening) (n : NodeName) → IsNoLook h.input → AllViews J nodes.entities → LooksBehind J (steps_of nodes h n)
node-looks J nodes h node.Monitor looks views =
    let o : Outcome MonitorNode = monitor_rule nodes.monitor h.input h.reading h.draw in
    let es : List Entry = (monitor_steps nodes o h.left o.out.save).out.entries in
    let shows : AllByRecursion ShowsNone es = all-map IsOfMonitor ShowsNone monitor-shows es (monitor-enters nodes h.input h.reading h.draw h.left) in
    record {
      looks = all-none-look J es shows;
      views = subst (λ (entities : List EntityNode). AllViews (J ++ es) entities) (sym (same-entities nodes o h.left o.out.save)) (shown-stay J es nodes.entities shows views);
    }
node-looks J nodes h (node.Entity name) looks views = entity-looks J nodes h name (entity_of name nodes) refl looks views

-- ---- every list of events

looks-from : (hs : List Happening) (nodes : Nodes) (J : List Entry) → AreUntold hs → AllViews J nodes.entities
    → EachBehind LooksLastBy J (map (λ (x : Entered). x.entry) (journal_from nodes hs))
looks-from [] nodes J looks views = tt
looks-from (h ∷ hs) nodes J looks views =
    let s : Stepped = steps nodes h in
    let b : LooksBehind J s = node-looks J nodes h h.node looks.0 views in
    let later : List Entry = map (λ (x : Entered). x.entry) (journal_from s.nodes hs) in
    let rest : EachBehind LooksLastBy (entered J s.out.entries) later =
    subst (λ (l : List Entry). EachBehind LooksLastBy l later) (sym (entered-append J s.out.entries)) (looks-from hs s.nodes (J ++ s.out.entries) looks.1 b.views) in
    let same : map (λ (x : Entered). x.entry) (entered_by h s.out ++ journal_from s.nodes hs) ≡ s.out.entries ++ later =
    map-append (λ (x : Entered). x.entry) (entered_by h s.out) (journal_from s.nodes hs) ∙ ap (λ (l : List Entry). l ++ later) (entries-by h s.out.entries) in
    subst (λ (l : List Entry). EachBehind LooksLastBy J l) (sym same) (behind-append LooksLastBy J s.out.entries later b.looks rest)

leaks-show : (leaks : List Leak)
    → AllByRecursion ShowsNone (map (λ (x : Entered). x.entry) (map (λ (l : Leak). record { line = l.line; reading = 0; entry = journal.Leaked l.client }) leaks))
leaks-show [] = tt
leaks-show (l ∷ leaks) = (tt, leaks-show leaks)

first-views : (J : List Entry) (es : List Declared) → AllByRecursion ShowsNone J → AllViews J (map entity_in es)
unfolding AllViews ViewIs
first-views J [] none = tt
first-views J (e ∷ es) none = (by_kind (is_daemon_type e.name.kind), first-views J es none)
  where
    by_kind : (t : Bool) → ViewIs J (if t then OfDaemon (daemon_opening (mon_client_of e)) else OfClient (opening_whole_client (mon_client_of e)))
    by_kind true = sym (none-shown e.name nothing_viewed J none)
    by_kind false = sym (none-shown e.name nothing_viewed J none)

pub all-looks : (setup : Setup) (hs : List Happening) → AreUntold hs → LooksLast (journal_since setup hs)
all-looks setup hs looks =
    let leaks : List Entry = map (λ (x : Entered). x.entry) (leaks_entered setup) in
    let later : List Entry = map (λ (x : Entered). x.entry) (journal_from (nodes_of setup) hs) in
    let shows : AllByRecursion ShowsNone leaks = leaks-show setup.leaks in
    let rest : EachBehind LooksLastBy (entered [] leaks) later =
    subst (λ (l : List Entry). EachBehind LooksLastBy l later) (sym (entered-append [] leaks)) (looks-from hs (nodes_of setup) leaks looks (first-views leaks setup.entities shows)) in
    subst (λ (l : List Entry). EachBehind LooksLastBy [] l) (sym (map-append (λ (x : Entered). x.entry) (leaks_entered setup) (journal_from (nodes_of setup) hs)))
    (behind-append LooksLastBy [] leaks later (all-none-look [] leaks shows) rest)
