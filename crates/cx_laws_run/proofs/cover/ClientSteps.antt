-- Each step of a client comes to what is known behind it: all that is known of links to the monitor stays so, with what the client said.
use Rattle.std.proofs.Common.{◌≡◌, false, List, [], ◌∷◌, Some, refl, sym, ap, subst}
use Rattle.std.specs.List.{AllByRecursion}
use Rattle.cx_base.proofs.Names.{same_name_is}
use Rattle.cx_base.specs.Names.{Name, is_daemon_type}
use Rattle.cx_base.specs.declared.nodes.NodeName.TheVariants as node
use Rattle.cx_journal.specs.declared.entries.Entry.{Entry}
use Rattle.cx_laws_run.specs.cx_laws_tickets.proofs.calling.Between.{ClientOk}
use Rattle.cx_laws_run.proofs.cover.MonClientBehind.{MonClientReady}
use Rattle.cx_laws_run.proofs.cover.ClientAsks.{ClientStageAsks, none-fetched}
use Rattle.cx_laws_run.proofs.cover.ClientEvents.{step-moves}
use Rattle.cx_laws_run.proofs.cover.ClientLinks.{ClientMoved, LinkBehind}
use Rattle.cx_laws_run.proofs.cover.EntityReady.{mon_client-ready}
use Rattle.cx_laws_run.proofs.cover.State.{ClientLinksHave, ClientStageHas, EntityHas}
use Rattle.cx_laws_run.proofs.cover.Steps.{ClientStep, EntityBehind, Ready}
use Rattle.cx_laws_run.specs.cx_laws_tickets.proofs.fetch.AllTold.{EntityTold}
use Rattle.cx_laws_run.specs.cx_laws_tickets.proofs.fetch.AskedKnown.{Told}
use Rattle.cx_laws_run.specs.cx_laws_tickets.proofs.fetch.PointEvents.{events_of}
use Rattle.cx_laws_run.specs.cx_laws_tickets.proofs.fetch.Retied.{Handed, retied}
use Rattle.cx_laws_run.specs.cx_laws_keys.proofs.keys.Lists.{all-map, found_all, found_passes}
use Rattle.cx_laws_run.specs.cx_laws_keys.proofs.keys.Premises.{behind}
use Rattle.cx_laws_run.specs.cx_laws_keys.proofs.keys.Uses.{AtMonitor, Connected, Uses, WholeRun}
use Rattle.cx_laws_run.specs.cx_laws_keys.proofs.login.MonClientRows.{NeverExcepted}
use Rattle.cx_laws_run.specs.cx_laws_keys.proofs.login.MonClientTurns as mon_client_turns
use Rattle.cx_laws_run.specs.cx_laws_keys.proofs.login.Facts.{MonClientOk}
use Rattle.cx_laws_run.proofs.run.Events.{EntityOk}
use Rattle.cx_laws_run.specs.cx_rules.specs.Links.{Link}
use Rattle.cx_laws_run.specs.cx_rules.specs.Rows.{Outcome}
use Rattle.cx_laws_run.specs.cx_rules_session.specs.ClientRule.{ClientStage, WholeClientNode, whole_client_rule}
use Rattle.cx_laws_run.specs.cx_run.proofs.ClientKept.{whole-named}
use Rattle.cx_laws_run.specs.cx_run.specs.Happenings.{OfClient, Stepped, entity_steps, is_of}
use Rattle.cx_laws_run.specs.cx_run.specs.Points.{Point}
use Rattle.cx_steps.specs.declared.seals.Logged.{Logged}

all-pairs : {X : Type 0} (P Q : X → Type 0) (xs : List X) → AllByRecursion P xs → AllByRecursion Q xs → AllByRecursion (λ (x : X). P x × Q x) xs
all-pairs P Q [] h g = tt
all-pairs P Q (x ∷ xs) h g = ((h.0, g.0), all-pairs P Q xs h.1 g.1)

-- at the client's own node
step-of : (run : WholeRun) (whole : List Logged) (us vs : Uses) (logins : List Handed) (told : Told) (past : List Point) (p : Point) (log : List Logged) (J : List Entry) (c : WholeClientNode)
    → ClientOk run us c → EntityTold past (OfClient c) → EntityHas (events_of past) (retied logins us) logins told log (OfClient c)
    → Ready run whole us vs logins told past p (node.Entity c.own.mon_client.name) log J (entity_steps p.nodes p.happening c.own.mon_client.name (Some (OfClient c)))
    → EntityBehind run us vs logins told past p c.own.mon_client.name log (entity_steps p.nodes p.happening c.own.mon_client.name (Some (OfClient c)))
    (OfClient (whole_client_rule c p.happening.input p.happening.reading p.happening.draw).state)
step-of run whole us vs logins told past p log J c ok tells has r = record {
  next = m.next;
  moved = m.moved;
  apart = m.apart;
  quiet = λ key number whose challenge means. m.quiet key number whose challenge (ready.grows.means key (Connected node.Monitor number whose (AtMonitor challenge)) means);
  known_of = m.known_of;
  handed = m.handed;
  entity_has = (
    subst (λ (owner : Name). ClientLinksHave (events_of (p ∷ past)) xs logins m.next later owner o.state.links) (sym named)
        (all-map Behind (λ (l : Link ClientStage). ClientStageHas (events_of (p ∷ past)) xs logins m.next later name l.number l.received l.taken l.sent l.stage) (λ l h. h.0) o.state.links m.links),
    record {
      kind = subst (λ (owner : Name). is_daemon_type owner.kind ≡ false) (sym named) has.1.kind;
      links = all-map Behind (λ (l : Link ClientStage). ClientStageAsks l.stage) (λ l h. h.1) o.state.links m.links;
    },
  );
  fetched = λ f entered. absurd (none-fetched o.out.entries m.entries f entered);
}
  where
    name : Name
    name = c.own.mon_client.name

    xs : Uses
    xs = retied logins vs

    o : Outcome WholeClientNode
    o = whole_client_rule c p.happening.input p.happening.reading p.happening.draw

    s : Stepped
    s = entity_steps p.nodes p.happening name (Some (OfClient c))

    later : List Logged
    later = behind (node.Entity name) p.happening.line o.out.seals log

    named : o.state.own.mon_client.name ≡ name
    named = whole-named c p.happening.input p.happening.reading p.happening.draw

    mon_client : MonClientOk run J us J c.own.mon_client
    mon_client = record { known = ok.known; quiet = λ t there. there; count = refl }

    free : NeverExcepted run whole (node.Entity name) us name
    free = mon_client_turns.mon_client-free run whole (node.Entity name) p.happening.line us log J J c.own.mon_client refl r.inv mon_client

    ready : MonClientReady run whole (retied logins us) xs logins told past p name log J
    ready = mon_client-ready run whole us vs logins told past p name log J s r free

    m : ClientMoved run whole (retied logins us) xs logins told past p log J name ready o
    m = step-moves run whole us xs logins told past p log J c ready r.inv free ok has.1.kind tells
        (all-pairs (λ (l : Link ClientStage). ClientStageHas (events_of past) (retied logins us) logins told log name l.number l.received l.taken l.sent l.stage)
        (λ (l : Link ClientStage). ClientStageAsks l.stage) c.links has.0 has.1.links)
        (ap (λ (t : Stepped). t.out) r.stepped) r.granted

    Behind : Link ClientStage → Type 0
    Behind l = LinkBehind run whole (retied logins us) xs logins told past p log J name ready m.next later l

pub client-step : (run : WholeRun) (whole : List Logged) → ClientStep run whole
client-step run whole us vs logins told past p name log J c found r =
    subst (λ (owner : Name). Ready run whole us vs logins told past p (node.Entity owner) log J (entity_steps p.nodes p.happening owner (Some (OfClient c)))
    → EntityBehind run us vs logins told past p owner log (entity_steps p.nodes p.happening owner (Some (OfClient c)))
    (OfClient (whole_client_rule c p.happening.input p.happening.reading p.happening.draw).state)) named
    (step-of run whole us vs logins told past p log J c (found_all (EntityOk run us J) (is_of name) p.nodes.entities (OfClient c) r.ok.entities found)
    (found_all (EntityTold past) (is_of name) p.nodes.entities (OfClient c) r.tells found)
    (found_all (EntityHas (events_of past) (retied logins us) logins told log) (is_of name) p.nodes.entities (OfClient c) r.has.entities found)) r
  where
    named : c.own.mon_client.name ≡ name
    named = same_name_is c.own.mon_client.name name (found_passes (is_of name) p.nodes.entities (OfClient c) found)
