-- Each session that is admitted or resumed goes back to its authorizer, to its ticket's issue, and to the entity's own node.
use Rattle.std.proofs.Common.{◌≡◌, ◌<◌, ◌∙◌, ℕ, true, List, [], ◌∷◌, Option, Some, None, inl, inr, refl, sym, ap, subst, arith}
use Rattle.std.specs.Prelude.{Contains, ◌==◌}
use Rattle.std.specs.List.{AllByRecursion}
use Rattle.std.proofs.lemmas.List.Elements.{All-contains, All-from_recursion}
use Rattle.cx_laws_links.specs.cx_laws_tickets.specs.cx_authorize.specs.Daemon.{Authority}
use Rattle.cx_base.proofs.Names.{same_name_is}
use Rattle.cx_base.specs.Names.{Name}
use Rattle.cx_base.specs.declared.kinds.EntityType.TheVariants.{Client}
use Rattle.cx_base.specs.declared.nodes.NodeName.{NodeName}
use Rattle.cx_base.specs.declared.nodes.NodeName.TheVariants as node
use Rattle.cx_journal.specs.Backed.{Backs}
use Rattle.cx_journal.specs.KeepsKeys.{has_generation}
use Rattle.cx_journal.specs.declared.entries.Admitted.{Admitted}
use Rattle.cx_journal.specs.declared.entries.Entry.{Entry}
use Rattle.cx_journal.specs.declared.entries.Entry.TheVariants as journal
use Rattle.cx_journal.specs.declared.entries.Issued.{Issued}
use Rattle.cx_laws_links.specs.cx_laws_tickets.specs.cx_rules.specs.Acceptor.{AwaitsIdent}
use Rattle.cx_laws_links.specs.cx_laws_tickets.specs.cx_rules.specs.Inputs.{Input, Turn}
use Rattle.cx_laws_links.specs.cx_laws_tickets.specs.cx_rules.specs.Links.{Link}
use Rattle.cx_laws_links.specs.cx_laws_tickets.specs.cx_rules.specs.Secured.{Keys}
use Rattle.cx_laws_links.specs.cx_laws_tickets.specs.cx_rules_session.specs.DaemonRule.{AsAcceptor, DaemonStage, DaemonState, daemon_step}
use Rattle.cx_laws_links.specs.cx_laws_tickets.specs.cx_run.proofs.PointsTell.{entered-at}
use Rattle.cx_laws_links.specs.cx_laws_tickets.specs.cx_run.proofs.Turning.{found-number}
use Rattle.cx_laws_links.specs.cx_laws_tickets.specs.cx_run.specs.Happenings.{EntityNode, OfClient, OfDaemon, Happening, Nodes, Stepped, entity_of, entity_steps, is_of, steps, steps_of}
use Rattle.cx_laws_links.specs.cx_laws_tickets.specs.cx_run.specs.Opening.{Leak, Setup, leaked_of, nodes_of}
use Rattle.cx_laws_links.specs.cx_laws_tickets.specs.cx_run.specs.Points.{EachPoint, Point, WasEntered, entered_until, entries_at, log_since, logged_until, points, seals_at}
use Rattle.cx_steps.specs.Premises.{IsFresh, IsSound}
use Rattle.cx_steps.specs.declared.seals.Logged.{Logged}
use Rattle.cx_steps.specs.declared.seals.SealEntry.{SealEntry}
use Rattle.cx_steps.specs.declared.seals.SealEntry.TheVariants as seal
use Rattle.cx_laws_links.specs.cx_laws_tickets.proofs.authorize.Backing.{AllGood, HasBacking, authorized-backed}
use Rattle.cx_laws_links.specs.cx_laws_tickets.proofs.authorize.DaemonRows.{DaemonStageOk}
use Rattle.cx_laws_links.specs.cx_laws_tickets.proofs.authorize.Keys.{HostKeys, host-connected}
use Rattle.cx_laws_links.specs.cx_laws_tickets.proofs.authorize.Opening.{IsOfSession, step-hears}
use Rattle.cx_laws_links.specs.cx_laws_tickets.proofs.authorize.Steps.{all-authorize}
use Rattle.cx_laws_links.specs.cx_laws_tickets.specs.authorize.Admission.{EntryTold, IsOwned, StageHas}
use Rattle.cx_laws_links.specs.cx_laws_tickets.specs.cx_rules.proofs.MonitorEnters.{IsOfMonitor}
use Rattle.cx_laws_links.specs.cx_laws_tickets.specs.cx_run.proofs.MonitorEnters.{monitor-enters}
use Rattle.cx_laws_links.specs.cx_laws_tickets.specs.cx_laws_keys.proofs.keys.Known.{Inv}
use Rattle.cx_laws_links.specs.cx_laws_tickets.specs.cx_laws_keys.proofs.keys.Lists.{found_all, found_passes}
use Rattle.cx_laws_links.specs.cx_laws_tickets.specs.cx_laws_keys.proofs.keys.Premises.{AreGranted}
use Rattle.cx_laws_links.specs.cx_laws_tickets.specs.cx_laws_keys.proofs.keys.Uses.{Uses, WholeRun}
use Rattle.cx_laws_links.specs.cx_laws_tickets.specs.cx_laws_keys.proofs.login.Hearing.{HearsPart, part_heard}
use Rattle.cx_laws_links.specs.cx_laws_tickets.proofs.calling.Entering.{IsOfClient, whole-enters}
use Rattle.cx_laws_run.proofs.run.Asked.{all-asked}
use Rattle.cx_laws_run.proofs.run.Events.{AllOccur, DaemonOk, EntityOk, NodesOk}
use Rattle.cx_laws_run.proofs.run.Gaining.{EntityGained, Gained, IsGained, LinkGained, all-gained}
use Rattle.cx_laws_run.proofs.run.Logins.{run-logins, run-points, sealed-by}
use Rattle.cx_laws_run.proofs.run.Opening.{nothing-in}
use Rattle.cx_laws_run.specs.run.Logins.{Asks, LogsIn, OwnFrame, Stands}
use Rattle.cx_laws_run.specs.run.Origins.{GoBack, GoesBack, IncomingSince, IsAuthorized, IsOwed, WasAskedFor}

-- ---- a point

-- the ticket of an authority that the daemon of this name got, as it was issued before
pub record IsBackedAt (older : List Point) (name : Name) (x : Authority) : Type 0 where
  pub ticket : Issued
  pub issued : WasEntered older (journal.Issued ticket)
  pub service : ticket.service ≡ name.kind
  pub entity : ticket.entity ≡ x.ticket.name
  pub gid : ticket.gid ≡ x.ticket.gid
  pub caps : ticket.caps ≡ x.ticket.caps
  pub live : x.at < ticket.expires
  pub lists : has_generation x.view.generations ticket.generation ≡ true

abbrev Backs_ : List Point → Point → Type 0
Backs_ older p = (name : Name) (number : ℕ) (x : Authority) → IsGained name number x p → IsBackedAt older name x

-- of each session that a daemon enters, of an entity that isn't leaked: its own node sealed what opened first
abbrev Owns : Setup → List Point → Point → Type 0
Owns setup older p = (name : Name) (d : DaemonState) → entity_of name p.nodes ≡ Some (OfDaemon d) → p.happening.node ≡ node.Entity name → (session : Admitted)
    → IsOwned d p.happening.input session → (e : Entry) → Contains (entries_at p) e → IsOfSession e → (Contains (leaked_of setup) session.entity → ⊥)
    → OwnFrame setup session.entity older p

abbrev Knows : Setup → List Point → Point → Type 0
Knows setup older p = Backs_ older p × Owns setup older p

-- what an event of the daemon of this name comes to
stepped-is : (nodes : Nodes) (h : Happening) (name : Name) (found : Option EntityNode) → h.node ≡ node.Entity name → entity_of name nodes ≡ found
    → steps nodes h ≡ entity_steps nodes h name found
stepped-is nodes h name found here is = ap (λ (n : NodeName). steps_of nodes h n) here ∙ ap (λ (f : Option EntityNode). entity_steps nodes h name f) is

module _ (run : WholeRun) (setup : Setup) (same : run.leaked ≡ leaked_of setup) (good_is : run.good ≡ true) (whole : List Logged) (past : List Point) (nodes : Nodes) (h : Happening)
    (us : Uses) (J : List Entry) (told : J ≡ entered_until setup past) (i : Inv run whole us (logged_until setup past) J) (ok : NodesOk run nodes us J) (good : AllGood run J)
    (g : AreGranted run.leaked whole h.node h.line (logged_until setup past) (steps nodes h).out.seals) where
  abbrev p : Point
  p = record { nodes = nodes; happening = h }

  module _ (name : Name) (d : DaemonState) (found : entity_of name nodes ≡ Some (OfDaemon d)) where
    known : DaemonOk run us J d.node
    known = found_all (EntityOk run us J) (is_of name) nodes.entities (OfDaemon d) ok.entities found

    named : d.node.own.mon_client.name ≡ name
    named = same_name_is d.node.own.mon_client.name name (found_passes (is_of name) nodes.entities (OfDaemon d) found)

    backed-here : (x : Authority) → HasBacking J d.node.own.mon_client.name.kind x → IsBackedAt past name x
    backed-here x b = record {
      ticket = b.ticket;
      issued = entered-at (journal.Issued b.ticket) tt setup past (subst (λ (l : List Entry). Contains l (journal.Issued b.ticket)) told b.issued);
      service = b.service_is ∙ ap (λ (n : Name). n.kind) named;
      entity = b.entity;
      gid = b.gid;
      caps = b.caps;
      live = b.live;
      lists = b.lists;
    }

    owned-here : h.node ≡ node.Entity name → (session : Admitted) → (o : IsOwned d h.input session) → (e : Entry) → Contains (entries_at p) e → IsOfSession e
        → (Contains (leaked_of setup) session.entity → ⊥) → OwnFrame setup session.entity past p
    owned-here here session o e has of unleaked =
        let link : Link DaemonStage = o.turn.link in
        let authority : Authority = o.owned.authority in
        let keys : Keys = o.owned.secured.keys in
        let stage_is : link.stage ≡ AsAcceptor (AwaitsIdent o.owned.secured authority) = o.turn.stage_is ∙ ap AsAcceptor o.owned.stage_is in
        let stepped : steps nodes h ≡ entity_steps nodes h name (Some (OfDaemon d)) = stepped-is nodes h name (Some (OfDaemon d)) here found in
        let entries_are : entries_at p ≡ (daemon_step nodes.handlers d (Turn o.number) h.reading h.draw).out.entries =
        ap (λ (s : Stepped). s.out.entries) stepped ∙ ap (λ (input : Input). (daemon_step nodes.handlers d input h.reading h.draw).out.entries) o.turn.turn in
        let seals_are : seals_at p ≡ (daemon_step nodes.handlers d (Turn o.number) h.reading h.draw).out.seals =
        ap (λ (s : Stepped). s.out.seals) stepped ∙ ap (λ (input : Input). (daemon_step nodes.handlers d input h.reading h.draw).out.seals) o.turn.turn in
        let heard : HearsPart keys (daemon_step nodes.handlers d (Turn o.number) h.reading h.draw).out.seals =
        step-hears nodes.handlers d o.number h.reading h.draw link o.owned.secured authority o.turn.found stage_is e (subst (λ (es : List Entry). Contains es e) entries_are has) of in
        let n : NodeName = node.Entity d.node.own.mon_client.name in
        let at_link : DaemonStageOk run us n link.number link.stage =
        found_all (λ (l : Link DaemonStage). DaemonStageOk run us n l.number l.stage) (λ (l : Link DaemonStage). l.number == o.number) d.node.links link known.links o.turn.found in
        let host : HostKeys us n link.number keys authority.ticket.name = (subst (λ (stage : DaemonStage). DaemonStageOk run us n link.number stage) stage_is at_link).0 in
        let opened : seals_at p ≡ seal.Opened (part_heard keys heard.plain) ∷ heard.rest = seals_are ∙ heard.opened in
        let granted : AreGranted run.leaked whole h.node h.line (logged_until setup past) (seal.Opened (part_heard keys heard.plain) ∷ heard.rest) =
        subst (λ (es : List SealEntry). AreGranted run.leaked whole h.node h.line (logged_until setup past) es) opened g in
        let own : Contains run.leaked authority.ticket.name → ⊥ =
        λ leak. unleaked (subst (λ (names : List Name). Contains names session.entity) same (subst (λ (m : Name). Contains run.leaked m) (sym o.owned.entity) leak)) in
        subst (λ (m : Name). OwnFrame setup m past p) (sym o.owned.entity) (
          part_heard keys heard.plain,
          heard.rest,
          opened,
          refl,
          sealed-by run setup same whole us J past nodes h keys heard.plain authority.ticket.name i (host-connected us n link.number keys authority.ticket.name host) host.into granted.0.owes own,
        )

  knows-here : Knows setup past p
  knows-here = (
    λ name number x gained.
        let d : DaemonState = gained.daemon in
        backed-here name d gained.found x
        (authorized-backed run whole h.node h.line us (logged_until setup past) J d.node.own.mon_client d.node.own.mon_client.name.kind number h.reading gained.gets.stage x (entries_at p) (seals_at p) i
        (known name d gained.found).known.fetched.generated (good good_is) g gained.gets.authorized),
    λ name d found here session o e has of unleaked. owned-here name d found here session o e has of unleaked,
  )

-- ---- what a session goes back to

-- nothing is entered for another ticket than one that was asked for
asked-for : (setup : Setup) (ticket : Issued) (past : List Point) → EachPoint (Asks setup) past → EachPoint (LogsIn setup) past → WasEntered past (journal.Issued ticket)
    → WasAskedFor setup ticket past
asked-for setup ticket [] asks logs was = was
asked-for setup ticket (p ∷ older) asks logs (inl has) = inl (has, asks.0 ticket has, logs.0)
asked-for setup ticket (p ∷ older) asks logs (inr before) = inr (asked-for setup ticket older asks.1 logs.1 before)

module _ (setup : Setup) (session : Admitted) (x : Authority) (name : Name) (number : ℕ) (daemon : session.daemon ≡ name) (entity : session.entity ≡ x.ticket.name)
    (gid : session.gid ≡ x.ticket.gid) (caps : session.caps ≡ x.ticket.caps) (at : session.at ≡ x.at) where
  -- the ticket, and since when the link is authorized for it
  record IsAuthorizedSince (past : List Point) : Type 0 where
    ticket : Issued
    backs : Backs ticket session
    since : IncomingSince (node.Entity name) number (λ earlier q. IsAuthorized session ticket number q × WasAskedFor setup ticket earlier) past

  backs-it : (older : List Point) → (b : IsBackedAt older name x) → Backs b.ticket session
  backs-it older b = record {
    entity = b.entity ∙ sym entity;
    gid = b.gid ∙ sym gid;
    caps = b.caps ∙ sym caps;
    service = b.service ∙ ap (λ (n : Name). n.kind) (sym daemon);
    live = let live : x.at < b.ticket.expires = b.live in omega arith;
  }

  gained-here : (older : List Point) (p : Point) → (k : IsGained name number x p) → (b : IsBackedAt older name x) → IsAuthorized session b.ticket number p
  gained-here older p k b =
      let d : DaemonState = k.daemon in
      let own : d.node.own.mon_client.name ≡ name = same_name_is d.node.own.mon_client.name name (found_passes (is_of name) p.nodes.entities (OfDaemon d) k.found) in
      record {
        daemon = k.here ∙ ap (λ (n : Name). node.Entity n) (sym daemon);
        turn = k.gets.turn.turn;
        reading = sym k.gets.authorized.at ∙ sym at;
        look = record { daemon = d.node.own.mon_client.name; link = number; view = x.view };
        looked = k.gets.authorized.looked;
        own = own ∙ sym daemon;
        on = refl;
        lists = b.lists;
        answered = record {
          state = d;
          of = ap (λ (n : Name). entity_of n p.nodes) daemon ∙ k.found;
          link = k.gets.turn.link;
          found = k.gets.turn.found;
          awaited = k.gets.authorized.awaited;
          stage = k.gets.turn.stage_is ∙ ap AsAcceptor k.gets.authorized.stage_is;
          said = x.ticket;
          shown = k.gets.authorized.shown;
          entity = sym b.entity;
          gid = sym b.gid;
          caps = sym b.caps;
        };
      }

  authorized-since : (past : List Point) → EachPoint (Knows setup) past → EachPoint (Asks setup) past → EachPoint (LogsIn setup) past
      → IncomingSince (node.Entity name) number (λ older q. IsGained name number x q) past → IsAuthorizedSince past
  authorized-since [] knows asks logs s = absurd s
  authorized-since (p ∷ older) knows asks logs (inl k) =
      let b : IsBackedAt older name x = knows.0.0 name number x k in
      record { ticket = b.ticket; backs = backs-it older b; since = inl (gained-here older p k b, asked-for setup b.ticket older asks.1 logs.1 b.issued) }
  authorized-since (p ∷ older) knows asks logs (inr (quiet, s)) =
      let r : IsAuthorizedSince older = authorized-since older knows.1 asks.1 logs.1 s in
      record { ticket = r.ticket; backs = r.backs; since = inr (quiet, r.since) }

module _ (setup : Setup) (older : List Point) (p : Point) (gained : Gained older p) (knows : Knows setup older p) (earlier : EachPoint (Knows setup) older)
    (asks : EachPoint (Asks setup) older) (logs : EachPoint (LogsIn setup) older) (session : Admitted) (e : Entry) (of : IsOfSession e) where
  -- of a daemon that enters it
  owed-by : (name : Name) (d : DaemonState) → entity_of name p.nodes ≡ Some (OfDaemon d) → p.happening.node ≡ node.Entity name → Contains (entries_at p) e
      → IsOwned d p.happening.input session → IsOwed setup older p session
  owed-by name d found here has o =
      let own : d.node.own.mon_client.name ≡ name = same_name_is d.node.own.mon_client.name name (found_passes (is_of name) p.nodes.entities (OfDaemon d) found) in
      let daemon : session.daemon ≡ name = o.owned.daemon_is ∙ own in
      let link : Link DaemonStage = o.turn.link in
      let authority : Authority = o.owned.authority in
      let stage_is : link.stage ≡ AsAcceptor (AwaitsIdent o.owned.secured authority) = o.turn.stage_is ∙ ap AsAcceptor o.owned.stage_is in
      let links : AllByRecursion (LinkGained older d.node.own.mon_client.name) d.node.links = found_all (EntityGained older) (is_of name) p.nodes.entities (OfDaemon d) gained found in
      let at_link : LinkGained older d.node.own.mon_client.name link =
      found_all (LinkGained older d.node.own.mon_client.name) (λ (l : Link DaemonStage). l.number == o.number) d.node.links link links o.turn.found in
      let numbered : link.number ≡ o.number = found-number o.number d.node.links link o.turn.found in
      let since : IncomingSince (node.Entity d.node.own.mon_client.name) link.number (λ q at. IsGained d.node.own.mon_client.name link.number authority at) older =
      at_link authority (subst (λ (stage : DaemonStage). StageHas stage authority) (sym stage_is) refl) in
      let there : IncomingSince (node.Entity name) o.number (λ q at. IsGained name o.number authority at) older =
      subst (λ (n : ℕ). IncomingSince (node.Entity name) n (λ q at. IsGained name n authority at) older) numbered
      (subst (λ (m : Name). IncomingSince (node.Entity m) link.number (λ q at. IsGained m link.number authority at) older) own since) in
      let r = authorized-since setup session authority name o.number daemon o.owned.entity o.owned.gid o.owned.caps o.owned.at older earlier asks logs there in
      record {
        daemon = here ∙ ap (λ (n : Name). node.Entity n) (sym daemon);
        number = o.number;
        turn = o.turn.turn;
        ticket = r.ticket;
        backs = r.backs;
        authorized = subst (λ (n : Name). IncomingSince (node.Entity n) o.number (λ q at. IsAuthorized session r.ticket o.number at × WasAskedFor setup r.ticket q) older) (sym daemon) r.since;
        own = λ unleaked. knows.1 name d found here session o e has of unleaked;
      }

-- ---- each point

-- no session is entered by the monitor or by a client
monitor-none : (e : Entry) → IsOfMonitor e → IsOfSession e → ⊥
monitor-none (journal.Admitted s) h of = h
monitor-none (journal.Resumed s) h of = h
monitor-none _ h of = of

client-none : (name : Name) (e : Entry) → IsOfClient name e → IsOfSession e → ⊥
client-none name (journal.Admitted s) h of = h
client-none name (journal.Resumed s) h of = h
client-none name _ h of = of

one-of : (P : Entry → Type 0) (es : List Entry) (e : Entry) → AllByRecursion P es → Contains es e → P e
one-of P es e all has = All-contains P es e (All-from_recursion P es all) has

module _ (setup : Setup) (older : List Point) (nodes : Nodes) (h : Happening) (gained : Gained older (record { nodes = nodes; happening = h }))
    (knows : Knows setup older (record { nodes = nodes; happening = h })) (earlier : EachPoint (Knows setup) older) (asks : EachPoint (Asks setup) older)
    (logs : EachPoint (LogsIn setup) older) (session : Admitted) (e : Entry) (of : IsOfSession e)
    (of_it : (d : DaemonState) (es : List Entry) (ss : List SealEntry) → EntryTold d h.input h.reading es ss e → IsOwned d h.input session) where
  abbrev point : Point
  point = record { nodes = nodes; happening = h }

  owed-entity : (name : Name) (found : Option EntityNode) → h.node ≡ node.Entity name → entity_of name nodes ≡ found → Contains (entries_at point) e → IsOwed setup older point session
  owed-entity name None here is has =
      let none : Contains {X = Entry} [] e = subst (λ (s : Stepped). Contains s.out.entries e) (stepped-is nodes h name None here is) has in
      absurd (nothing-in e none)
  owed-entity name (Some (OfClient c)) here is has =
      let there = subst (λ (s : Stepped). Contains s.out.entries e) (stepped-is nodes h name (Some (OfClient c)) here is) has in
      absurd (client-none c.own.mon_client.name e (one-of (IsOfClient c.own.mon_client.name) _ e (whole-enters c h.input h.reading h.draw).enters there) of)
  owed-entity name (Some (OfDaemon d)) here is has =
      let there = subst (λ (s : Stepped). Contains s.out.entries e) (stepped-is nodes h name (Some (OfDaemon d)) here is) has in
      let step = daemon_step nodes.handlers d h.input h.reading h.draw in
      let told : EntryTold d h.input h.reading step.out.entries step.out.seals e =
      one-of (EntryTold d h.input h.reading step.out.entries step.out.seals) step.out.entries e (all-authorize nodes.handlers d h.input h.reading h.draw).told there in
      owed-by setup older point gained knows earlier asks logs session e of name d is here has (of_it d step.out.entries step.out.seals told)

  owed-node : (n : NodeName) → h.node ≡ n → Contains (entries_at point) e → IsOwed setup older point session
  owed-node node.Monitor here has =
      let there : Contains (steps_of nodes h node.Monitor).out.entries e = subst (λ (n : NodeName). Contains (steps_of nodes h n).out.entries e) here has in
      absurd (monitor-none e (one-of IsOfMonitor _ e (monitor-enters nodes h.input h.reading h.draw h.left) there) of)
  owed-node (node.Entity name) here has = owed-entity name (entity_of name nodes) here refl has

goes-back : (setup : Setup) (older : List Point) (p : Point) → Gained older p → Knows setup older p → EachPoint (Knows setup) older → EachPoint (Asks setup) older
    → EachPoint (LogsIn setup) older → GoesBack setup older p
goes-back setup older p gained knows earlier asks logs session (inl has) =
    owed-node setup older p.nodes p.happening gained knows earlier asks logs session (journal.Admitted session) tt (λ d es ss told. told) p.happening.node refl has
goes-back setup older p gained knows earlier asks logs session (inr has) =
    owed-node setup older p.nodes p.happening gained knows earlier asks logs session (journal.Resumed session) tt (λ d es ss told. told) p.happening.node refl has

all-back : (setup : Setup) (past : List Point) → EachPoint Gained past → EachPoint (Knows setup) past → EachPoint (Asks setup) past → EachPoint (LogsIn setup) past → GoBack setup past
all-back setup [] gained knows asks logs = tt
all-back setup (p ∷ older) gained knows asks logs =
    (goes-back setup older p gained.0 knows.0 knows.1 asks.1 logs.1, all-back setup older gained.1 knows.1 asks.1 logs.1)

pub run-origins : (run : WholeRun) (setup : Setup) (hs : List Happening) → run.leaked ≡ leaked_of setup → run.good ≡ true
    → AllByRecursion (λ (l : Leak). l.client.kind ≡ Client) setup.leaks → AllOccur run (nodes_of setup) hs → IsSound (leaked_of setup) (log_since setup hs) → IsFresh (log_since setup hs)
    → GoBack setup (points setup hs)
run-origins run setup hs same good clients occur sound fresh =
    let stands : Stands setup hs = all-asked setup hs in
    all-back setup (points setup hs) (all-gained setup hs)
    (run-points run setup hs same clients occur sound fresh (Knows setup)
    (λ past nodes h us J told i ok goods g. knows-here run setup same good (log_since setup hs) past nodes h us J told i ok goods g))
    stands.asked (run-logins run setup hs same clients occur sound fresh).asked
