-- Each step of a daemon comes to what is known behind it: all that is known of links to the monitor stays so, with what the daemon said; and each fetch that it enters
-- is what the monitor replied behind its asking.
use Rattle.std.proofs.Common.{◌≡◌, Bool, true, false, List, [], ◌∷◌, Some, inl, inr, ◌⊎◌, refl, sym, ap, ◌∙◌, subst}
use Rattle.std.specs.Prelude.{Contains, if◌then◌else◌, map}
use Rattle.std.specs.List.{AllByRecursion, find}
use Rattle.cx_base.proofs.Names.{same_name_is}
use Rattle.cx_base.specs.Names.{Name, is_daemon_type}
use Rattle.cx_base.specs.declared.nodes.NodeName.TheVariants as node
use Rattle.cx_journal.specs.declared.entries.Entry.{Entry}
use Rattle.cx_laws_run.specs.cx_laws_tickets.proofs.authorize.DaemonRows.{LinksHave}
use Rattle.cx_laws_run.proofs.cover.DaemonReady.{DaemonReady, Keeps, NodeBehind}
use Rattle.cx_laws_run.proofs.cover.DaemonSteps.{rule-keeps}
use Rattle.cx_laws_run.proofs.cover.EntityReady.{mon_client-ready}
use Rattle.cx_laws_run.proofs.cover.State.{DaemonLinksHave, EntityHas}
use Rattle.cx_laws_run.proofs.cover.Steps.{DaemonStep, EntityBehind, Ready}
use Rattle.cx_laws_run.specs.cx_laws_tickets.proofs.fetch.AllTold.{EntityTold}
use Rattle.cx_laws_run.specs.cx_laws_tickets.proofs.fetch.AskedKnown.{Told}
use Rattle.cx_laws_run.specs.cx_laws_tickets.proofs.fetch.PointEvents.{events_of}
use Rattle.cx_laws_run.specs.cx_laws_tickets.proofs.fetch.Retied.{Handed, grows-retied, retied}
use Rattle.cx_laws_run.specs.cx_laws_keys.proofs.keys.Journal.{entered}
use Rattle.cx_laws_run.specs.cx_laws_keys.proofs.keys.Lists.{found_all, found_passes}
use Rattle.cx_laws_run.specs.cx_laws_keys.proofs.keys.Premises.{behind}
use Rattle.cx_laws_run.specs.cx_laws_keys.proofs.keys.Uses.{AtMonitor, Connected, Uses, WholeRun}
use Rattle.cx_laws_run.specs.cx_laws_keys.proofs.login.MonClientRows.{NeverExcepted}
use Rattle.cx_laws_run.specs.cx_laws_keys.proofs.login.MonClientTurns as mon_client_turns
use Rattle.cx_laws_run.specs.cx_laws_keys.proofs.login.Facts.{MonClientOk}
use Rattle.cx_laws_run.proofs.run.Events.{DaemonOk, EntityOk}
use Rattle.cx_laws_run.specs.cx_rules.specs.Rows.{Outcome}
use Rattle.cx_laws_run.specs.cx_rules_session.specs.DaemonRule.{DaemonState, book_after, book_reply, daemon_rule, daemon_step}
use Rattle.cx_laws_run.specs.cx_run.proofs.DaemonNamed.{daemon-named}
use Rattle.cx_laws_run.specs.cx_run.proofs.Always.{always-book}
use Rattle.cx_laws_run.specs.cx_run.specs.Happenings.{OfDaemon, Stepped, entity_of, entity_steps, is_of}
use Rattle.cx_laws_run.specs.cx_run.specs.Points.{Point}
use Rattle.cx_steps.specs.Premises.{is_server}
use Rattle.cx_steps.specs.declared.seals.Logged.{Logged}

-- of one that is found, what holds of all where another one stands in its place holds of that one
one-replaced : {X : Type 0} (P : X → Type 0) (test : X → Bool) (new : X) (xs : List X) (x : X) → find test xs ≡ Some x
    → AllByRecursion P (map (λ (y : X). if test y then new else y) xs) → P new
one-replaced P test new [] x is h = absurd cc
one-replaced {X} P test new (y ∷ xs) x is h = by_test (test y) is h.0 (λ same. one-replaced P test new xs x same h.1)
  where
    by_test : (t : Bool) → (if t then Some y else find test xs) ≡ Some x → P (if t then new else y) → (find test xs ≡ Some x → P new) → P new
    by_test true same here rest = here
    by_test false same here rest = rest same

-- a server that isn't leaked, of one that is trusted
is-unleaked : (run : WholeRun) (name : Name) → is_daemon_type name.kind ≡ true → (is_server (node.Entity name) ≡ false) ⊎ (Contains run.leaked name → ⊥) → Contains run.leaked name → ⊥
is-unleaked run name of (inr unleaked) has = unleaked has
is-unleaked run name of (inl client) has = let other : true ≡ false = sym of ∙ client in absurd cc

-- ---- at its own name

module _ (run : WholeRun) (whole : List Logged) (us vs : Uses) (logins : List Handed) (told : Told) (past : List Point) (p : Point) (log : List Logged) (J : List Entry) (d : DaemonState)
    (found : entity_of d.node.own.mon_client.name p.nodes ≡ Some (OfDaemon d))
    (r : Ready run whole us vs logins told past p (node.Entity d.node.own.mon_client.name) log J (entity_steps p.nodes p.happening d.node.own.mon_client.name (Some (OfDaemon d)))) where
  abbrev name : Name
  name = d.node.own.mon_client.name

  abbrev o : Outcome DaemonState
  o = daemon_step p.nodes.handlers d p.happening.input p.happening.reading p.happening.draw

  abbrev s : Stepped
  s = entity_steps p.nodes p.happening name (Some (OfDaemon d))

  ok : DaemonOk run us J d.node
  ok = found_all (EntityOk run us J) (is_of name) p.nodes.entities (OfDaemon d) r.ok.entities found

  ok_behind : DaemonOk run vs (entered J o.out.entries) o.state.node
  ok_behind = one-replaced (EntityOk run vs (entered J o.out.entries)) (is_of name) (OfDaemon o.state) p.nodes.entities (OfDaemon d) found r.ok_behind.entities

  named : o.state.node.own.mon_client.name ≡ name
  named = daemon-named p.nodes.handlers d p.happening.input p.happening.reading p.happening.draw

  mon_client : MonClientOk run J us J d.node.own.mon_client
  mon_client = record { known = ok.known; quiet = λ t there. there; count = refl }

  free : NeverExcepted run whole (node.Entity name) us name
  free = mon_client_turns.mon_client-free run whole (node.Entity name) p.happening.line us log J J d.node.own.mon_client refl r.inv mon_client

  ready : DaemonReady run whole us vs logins told past p log J d.node
  ready = record {
    mon_client = mon_client-ready run whole us vs logins told past p name log J s r free;
    inv = r.inv;
    grows = r.grows;
    of = ok.of;
    known = ok.known;
    had = ok.links;
    links = found_all (EntityHas (events_of past) (retied logins us) logins told log) (is_of name) p.nodes.entities (OfDaemon d) r.has.entities found;
    tells = found_all (EntityTold past) (is_of name) p.nodes.entities (OfDaemon d) r.tells found;
    free = is-unleaked run name ok.of ok.known.trusted;
    reads = r.reads name d found;
  }

  step : NodeBehind run us vs logins told past p log name (record { state = o.state.node; out = o.out })
  step =
      always-book (Keeps run whole us vs logins told past p log d.node) book_reply book_after d.book
      (daemon_rule p.nodes.handlers d.node p.happening.input p.happening.reading p.happening.draw)
      (rule-keeps run whole us vs logins told past p log J d.node ready p.nodes.handlers p.happening.input)
      (ap (λ (t : Stepped). t.out) r.stepped) r.granted
      (subst (λ (m : Name). LinksHave run (node.Entity m) vs o.state.node.links) named ok_behind.links)

  behind-step : EntityBehind run us vs logins told past p name log s (OfDaemon o.state)
  behind-step = record {
    next = step.next;
    moved = step.moved;
    apart = step.apart;
    quiet = λ key number m challenge means.
        step.quiet key number m challenge
        ((grows-retied us vs logins logins (λ k acceptor n owner c is. refl) r.grows).means key (Connected node.Monitor number m (AtMonitor challenge)) means);
    known_of = step.known_of;
    handed = step.handed;
    entity_has = subst (λ (m : Name). DaemonLinksHave (events_of (p ∷ past)) (retied logins vs) logins step.next (behind (node.Entity name) p.happening.line o.out.seals log) m o.state.node.links)
        (sym named) step.links;
    fetched = step.fetched;
  }

-- ---- by any name

pub daemon-step : (run : WholeRun) (whole : List Logged) → DaemonStep run whole
daemon-step run whole us vs logins told past p name log J d found r =
    subst (λ (owner : Name). entity_of owner p.nodes ≡ Some (OfDaemon d)
    → Ready run whole us vs logins told past p (node.Entity owner) log J (entity_steps p.nodes p.happening owner (Some (OfDaemon d)))
    → EntityBehind run us vs logins told past p owner log (entity_steps p.nodes p.happening owner (Some (OfDaemon d)))
    (OfDaemon (daemon_step p.nodes.handlers d p.happening.input p.happening.reading p.happening.draw).state))
    (same_name_is d.node.own.mon_client.name name (found_passes (is_of name) p.nodes.entities (OfDaemon d) found))
    (λ there ready. behind-step run whole us vs logins told past p log J d there ready) found r
