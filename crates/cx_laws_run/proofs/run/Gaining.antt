-- Each authority that an incoming link has, it got at a point of that link: since then no incoming link was opened under its number.
use Rattle.std.proofs.Common.{◌≡◌, ◌⊎◌, ℕ, Bool, true, false, List, [], ◌∷◌, map, find, cond, Option, Some, None, inl, inr, refl, sym, ap, ◌∙◌, subst, eqb-true}
use Rattle.std.specs.Prelude.{◌&&◌, if◌then◌else◌}
use Rattle.std.specs.List.{AllByRecursion}
use Rattle.cx_laws_links.specs.cx_laws_tickets.specs.cx_authorize.specs.Daemon.{Authority}
use Rattle.cx_base.proofs.Names.{same_name_is}
use Rattle.cx_base.specs.Names.{Name, is_daemon_type}
use Rattle.cx_base.specs.declared.nodes.NodeName.{NodeName}
use Rattle.cx_base.specs.declared.nodes.NodeName.TheVariants as node
use Rattle.cx_words.specs.declared.choices.LeftState.{LeftState}
use Rattle.cx_laws_links.specs.cx_laws_tickets.specs.cx_rules_session.specs.ClientRule.{opening_whole_client}
use Rattle.cx_laws_links.specs.cx_laws_tickets.specs.cx_rules.specs.Inputs.{Input, Opened, NoLink, Bytes, Turn, Gone, Look, Tick, Submit, Restart}
use Rattle.cx_laws_links.specs.cx_laws_tickets.specs.cx_rules.specs.Links.{Link}
use Rattle.cx_laws_links.specs.cx_laws_tickets.specs.cx_rules.specs.MonitorRule.{monitor_rule}
use Rattle.cx_laws_links.specs.cx_laws_tickets.specs.cx_rules.specs.Rows.{Outcome}
use Rattle.cx_laws_links.specs.cx_laws_tickets.specs.cx_rules_session.specs.DaemonRule.{DaemonStage, DaemonState, daemon_step}
use Rattle.cx_laws_links.specs.cx_laws_tickets.specs.cx_run.proofs.DaemonNamed.{daemon-named}
use Rattle.cx_laws_links.specs.cx_laws_tickets.specs.cx_run.specs.Happenings.{EntityNode, OfClient, OfDaemon, Happening, Nodes, mon_client_in, entity_of, entity_rule, entity_steps, is_of, steps}
use Rattle.cx_laws_links.specs.cx_laws_tickets.specs.cx_run.specs.Opening.{Declared, Setup, mon_client_of, daemon_opening, entity_in, nodes_of}
use Rattle.cx_laws_links.specs.cx_laws_tickets.specs.cx_run.specs.Points.{EachPoint, Point, entries_at, points, points_onto, seals_at}
use Rattle.cx_laws_links.specs.cx_laws_tickets.specs.cx_run.specs.Wires.{same_node}
use Rattle.cx_laws_links.specs.cx_laws_tickets.proofs.authorize.Opening.{HasNoneAt, opens-bare}
use Rattle.cx_laws_links.specs.cx_laws_tickets.proofs.authorize.Steps.{all-authorize}
use Rattle.cx_laws_links.specs.cx_laws_tickets.specs.authorize.Admission.{GetsAuthority, HadAuthority, LinkAuthorized, StageHas, StepAuthorizes}
use Rattle.cx_laws_links.specs.cx_laws_tickets.specs.cx_laws_keys.proofs.keys.Lists.{all-map, found_all, found_passes, some-of}
use Rattle.cx_laws_links.specs.cx_laws_tickets.specs.cx_laws_keys.proofs.keys.Viewing.{other-way}
use Rattle.cx_laws_run.proofs.run.Looks.{same-entities}
use Rattle.cx_laws_run.specs.run.Origins.{IncomingSince, is_incoming_opened, opens_incoming_at}

-- the daemon of this name got this authority at this point, on its link of this number
pub record IsGained (name : Name) (number : ℕ) (x : Authority) (p : Point) : Type 0 where
  pub daemon : DaemonState
  pub found : entity_of name p.nodes ≡ Some (OfDaemon daemon)
  pub here : p.happening.node ≡ node.Entity name
  pub gets : GetsAuthority daemon p.happening.input number p.happening.reading x (entries_at p) (seals_at p)

abbrev pub LinkGained : List Point → Name → Link DaemonStage → Type 0
LinkGained past name l = (x : Authority) → StageHas l.stage x → IncomingSince (node.Entity name) l.number (λ older p. IsGained name l.number x p) past

abbrev pub EntityGained : List Point → EntityNode → Type 0
EntityGained past (OfClient c) = Unit {0}
EntityGained past (OfDaemon d) = AllByRecursion (LinkGained past d.node.own.mon_client.name) d.node.links

abbrev pub AllGained : List Point → List EntityNode → Type 0
AllGained past es = AllByRecursion (EntityGained past) es

-- ---- lists

all-any : {X : Type 0} (P : X → Type 0) → ((x : X) → P x) → (xs : List X) → AllByRecursion P xs
all-any P f [] = tt
all-any P f (x ∷ xs) = (f x, all-any P f xs)

all-with : {X : Type 0} (P Q R : X → Type 0) → ((x : X) → P x → Q x → R x) → (xs : List X) → AllByRecursion P xs → AllByRecursion Q xs → AllByRecursion R xs
all-with P Q R f [] p q = tt
all-with P Q R f (x ∷ xs) p q = (f x p.0 q.0, all-with P Q R f xs p.1 q.1)

no-and : (a : Bool) → (a && false) ≡ false
no-and true = refl
no-and false = refl

-- ---- links that open

-- where an incoming link opens under its number, it has no authority
abbrev QuietLink : Input → Link DaemonStage → Type 0
QuietLink input l = is_incoming_opened l.number input ≡ true → (x : Authority) → StageHas l.stage x → ⊥

not_true : false ≡ true → ⊥
not_true e = cc

quiet-links : (nodes : Nodes) (d : DaemonState) (reading : ℕ) (draw : List ℕ) (input : Input)
    → AllByRecursion (QuietLink input) (daemon_step nodes.handlers d input reading draw).state.node.links
quiet-links nodes d reading draw (Opened n None) =
    all-map (HasNoneAt n) (QuietLink (Opened n None)) (λ l bare is x has. bare (sym (eqb-true n l.number is)) x has)
    (daemon_step nodes.handlers d (Opened n None) reading draw).state.node.links (opens-bare d.node reading draw n)
quiet-links nodes d reading draw (Opened n (Some to)) = all-any (QuietLink (Opened n (Some to))) (λ l is x has. not_true is) _
quiet-links nodes d reading draw (NoLink to) = all-any (QuietLink (NoLink to)) (λ l is x has. not_true is) _
quiet-links nodes d reading draw (Bytes n bytes) = all-any (QuietLink (Bytes n bytes)) (λ l is x has. not_true is) _
quiet-links nodes d reading draw (Turn n) = all-any (QuietLink (Turn n)) (λ l is x has. not_true is) _
quiet-links nodes d reading draw (Gone n) = all-any (QuietLink (Gone n)) (λ l is x has. not_true is) _
quiet-links nodes d reading draw (Look view) = all-any (QuietLink (Look view)) (λ l is x has. not_true is) _
quiet-links nodes d reading draw Tick = all-any (QuietLink Tick) (λ l is x has. not_true is) _
quiet-links nodes d reading draw (Submit said) = all-any (QuietLink (Submit said)) (λ l is x has. not_true is) _
quiet-links nodes d reading draw Restart = tt

-- ---- one event

-- what was so since then still is, where another node steps
stays-elsewhere : (past : List Point) (p : Point) (e : EntityNode) → same_node p.happening.node (node.Entity (mon_client_in e).name) ≡ false → EntityGained past e → EntityGained (p ∷ past) e
stays-elsewhere past p (OfClient c) differ h = tt
stays-elsewhere past p (OfDaemon d) differ h =
    all-map (LinkGained past d.node.own.mon_client.name) (LinkGained (p ∷ past) d.node.own.mon_client.name) (λ l was x has. inr (rw differ refl, was x has)) d.node.links h

all-elsewhere : (past : List Point) (p : Point) (es : List EntityNode) → ((e : EntityNode) → same_node p.happening.node (node.Entity (mon_client_in e).name) ≡ false) → AllGained past es
    → AllGained (p ∷ past) es
all-elsewhere past p [] differ h = tt
all-elsewhere past p (e ∷ es) differ h = (stays-elsewhere past p e (differ e) h.0, all-elsewhere past p es differ h.1)

module _ (past : List Point) (nodes : Nodes) (input : Input) (reading : ℕ) (draw : List ℕ) (line : ℕ) (failing : Option LeftState) where
  abbrev point_at : NodeName → Point
  point_at n = record { nodes = nodes; happening = record { node = n; input = input; reading = reading; draw = draw; line = line; left = failing } }

  module _ (name : Name) where
    abbrev p : Point
    p = point_at (node.Entity name)

    -- the links of the daemon that steps
    module _ (d : DaemonState) (found : entity_of name nodes ≡ Some (OfDaemon d)) (was : AllByRecursion (LinkGained past name) d.node.links) where
      abbrev o : Outcome DaemonState
      o = daemon_step nodes.handlers d input reading draw

      gains : (l : Link DaemonStage) → LinkAuthorized d input reading o.out.entries o.out.seals l → QuietLink input l → LinkGained (p ∷ past) name l
      gains l authorized quiet x has = by_way (authorized x has)
        where
          here : GetsAuthority d input l.number reading x o.out.entries o.out.seals → IsGained name l.number x p
          here gets = record {
            daemon = d;
            found = found;
            here = refl;
            gets = subst (λ (f : Option EntityNode). GetsAuthority d input l.number reading x (entity_steps nodes p.happening name f).out.entries (entity_steps nodes p.happening name f).out.seals)
                (sym found) gets;
          }

          unopened : (t : Bool) → is_incoming_opened l.number input ≡ t → opens_incoming_at (node.Entity name) l.number p ≡ false
          unopened true is = absurd (quiet is x has)
          unopened false is = ap (λ (b : Bool). same_node (node.Entity name) (node.Entity name) && b) is ∙ no-and (same_node (node.Entity name) (node.Entity name))

          before : HadAuthority d l.number x → IncomingSince (node.Entity name) l.number (λ older q. IsGained name l.number x q) past
          before had =
              some-of (λ (k : Link DaemonStage). (k.number ≡ l.number) × StageHas k.stage x) (LinkGained past name)
              (IncomingSince (node.Entity name) l.number (λ older q. IsGained name l.number x q) past)
              (λ k had link. subst (λ (n : ℕ). IncomingSince (node.Entity name) n (λ older q. IsGained name n x q) past) had.0 (link x had.1)) d.node.links had was

          by_way : HadAuthority d l.number x ⊎ GetsAuthority d input l.number reading x o.out.entries o.out.seals
              → IncomingSince (node.Entity name) l.number (λ older q. IsGained name l.number x q) (p ∷ past)
          by_way (inl had) = inr (unopened (is_incoming_opened l.number input) refl, before had)
          by_way (inr gets) = inl (here gets)

      links-gain : AllByRecursion (LinkGained (p ∷ past) name) o.state.node.links
      links-gain =
          let a : StepAuthorizes nodes.handlers d input reading draw = all-authorize nodes.handlers d input reading draw in
          all-with (LinkAuthorized d input reading o.out.entries o.out.seals) (QuietLink input) (LinkGained (p ∷ past) name) gains o.state.node.links a.authorized
          (quiet-links nodes d reading draw input)

    -- the entity that steps
    entity-gains : (e : EntityNode) → entity_of name nodes ≡ Some e → EntityGained past e → EntityGained (p ∷ past) (entity_rule nodes.handlers e input reading draw).state
    entity-gains (OfClient c) found was = tt
    entity-gains (OfDaemon d) found was =
        let named : d.node.own.mon_client.name ≡ name = same_name_is d.node.own.mon_client.name name (found_passes (is_of name) nodes.entities (OfDaemon d) found) in
        let kept : (daemon_step nodes.handlers d input reading draw).state.node.own.mon_client.name ≡ d.node.own.mon_client.name = daemon-named nodes.handlers d input reading draw in
        subst (λ (n : Name). AllByRecursion (LinkGained (p ∷ past) n) (daemon_step nodes.handlers d input reading draw).state.node.links) (sym (kept ∙ named))
        (links-gain d found (subst (λ (n : Name). AllByRecursion (LinkGained past n) d.node.links) named was))

    replaced-gains : (new : EntityNode) → EntityGained (p ∷ past) new → (es : List EntityNode) → AllGained past es
        → AllGained (p ∷ past) (map (λ (e : EntityNode). if is_of name e then new else e) es)
    replaced-gains new is [] h = tt
    replaced-gains new is (e ∷ es) h = (by_test (is_of name e) refl, replaced-gains new is es h.1)
      where
        by_test : (t : Bool) → is_of name e ≡ t → EntityGained (p ∷ past) (if t then new else e)
        by_test true same = is
        by_test false other = stays-elsewhere past p e (other-way name (mon_client_in e).name other) h.0

    none-found : (es : List EntityNode) → find (is_of name) es ≡ None → AllGained past es → AllGained (p ∷ past) es
    none-found [] is h = tt
    none-found (e ∷ es) is h = by_test (is_of name e) refl is (none-found es)
      where
        by_test : (t : Bool) → is_of name e ≡ t → cond t (Some e) (find (is_of name) es) ≡ None → (find (is_of name) es ≡ None → AllGained past es → AllGained (p ∷ past) es)
            → AllGained (p ∷ past) (e ∷ es)
        by_test true same found rest = absurd cc
        by_test false other found rest = (stays-elsewhere past p e (other-way name (mon_client_in e).name other) h.0, rest found h.1)

    steps-gain : (found : Option EntityNode) → entity_of name nodes ≡ found → AllGained past nodes.entities → AllGained (p ∷ past) (entity_steps nodes p.happening name found).nodes.entities
    steps-gain None is h = none-found nodes.entities is h
    steps-gain (Some e) is h =
        replaced-gains (entity_rule nodes.handlers e input reading draw).state (entity-gains e is (found_all (EntityGained past) (is_of name) nodes.entities e h is)) nodes.entities h

  node-gains : (n : NodeName) → AllGained past nodes.entities → AllGained (point_at n ∷ past) (steps nodes (point_at n).happening).nodes.entities
  node-gains node.Monitor h =
      let m = monitor_rule nodes.monitor input reading draw in
      subst (AllGained (point_at node.Monitor ∷ past)) (sym (same-entities nodes m failing m.out.save)) (all-elsewhere past (point_at node.Monitor) nodes.entities (λ e. refl) h)
  node-gains (node.Entity name) h = steps-gain name (entity_of name nodes) refl h

-- ---- every list of events

abbrev pub Gained : List Point → Point → Type 0
Gained older p = AllGained older p.nodes.entities

gained-onto : (hs : List Happening) (past : List Point) (nodes : Nodes) → AllGained past nodes.entities → EachPoint Gained past → EachPoint Gained (points_onto past nodes hs)
gained-onto [] past nodes h each = each
gained-onto (h ∷ hs) past nodes gained each =
    gained-onto hs (record { nodes = nodes; happening = h } ∷ past) (steps nodes h).nodes (node-gains past nodes h.input h.reading h.draw h.line h.left h.node gained) (gained, each)

first-gained : (es : List Declared) → AllGained [] (map entity_in es)
first-gained [] = tt
first-gained (e ∷ es) = (by_kind (is_daemon_type e.name.kind), first-gained es)
  where
    by_kind : (t : Bool) → EntityGained [] (if t then OfDaemon (daemon_opening (mon_client_of e)) else OfClient (opening_whole_client (mon_client_of e)))
    by_kind true = tt
    by_kind false = tt

pub all-gained : (setup : Setup) (hs : List Happening) → EachPoint Gained (points setup hs)
all-gained setup hs = gained-onto hs [] (nodes_of setup) (first-gained setup.entities) tt
