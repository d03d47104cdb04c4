-- Each ticket was asked for, whatever is forged: behind any list of events each link of the monitor that waits for a proof had its challenge drawn
-- on it, for an entity whose secret it has.
use Rattle.std.proofs.Common.{◌≡◌, ℕ, ◌<◌, ◌==◌, Bool, true, false, cond, List, [], ◌∷◌, ◌++◌, length, filter, map, Option, Some, None, inl, inr, refl, sym, ap, ◌∙◌, subst, arith, eqb-true, eq-eqb, ltb-true}
use Rattle.std.specs.Prelude.{◌⊎◌, Contains, nat_le, nat_lt, not, if◌then◌else◌}
use Rattle.std.specs.List.{AllByRecursion}
use Rattle.cx_base.proofs.Names.{same_name_is}
use Rattle.cx_base.specs.Names.{Name}
use Rattle.cx_base.specs.declared.nodes.NodeName.{NodeName}
use Rattle.cx_base.specs.declared.nodes.NodeName.TheVariants as node
use Rattle.cx_dice.specs.Draws.{challenge_of}
use Rattle.cx_journal.specs.declared.entries.Entry.TheVariants as journal
use Rattle.cx_journal.specs.declared.entries.Issued.{Issued}
use Rattle.cx_journal.specs.declared.outcomes.Reason.TheVariants.{LinksFull}
use Rattle.cx_keyring.specs.Entries.{is_named}
use Rattle.cx_keyring.specs.declared.entries.Entry.{Entry as Principal}
use Rattle.cx_words.specs.declared.choices.LeftState.{LeftState}
use Rattle.cx_words.specs.declared.choices.LeftState.TheVariants as left
use Rattle.cx_rotate.specs.declared.states.KeptState.{KeptState}
use Rattle.cx_laws_links.specs.cx_laws_tickets.specs.cx_rules.proofs.Drawing.{monitor-logs}
use Rattle.cx_laws_links.specs.cx_laws_tickets.specs.cx_rules.specs.Acceptor.{AwaitsBanner, AwaitsHello, AwaitsRequest, AwaitsProof, AwaitsSignature, AwaitsIdent, Open}
use Rattle.cx_laws_links.specs.cx_laws_tickets.specs.cx_rules.specs.Greetings.{own_banner}
use Rattle.cx_laws_links.specs.cx_laws_tickets.specs.cx_rules.specs.Inputs.{Input, Opened, NoLink, Bytes, Turn, Gone, Look, Tick, Submit, Restart}
use Rattle.cx_laws_links.specs.cx_laws_tickets.specs.cx_rules.specs.Judged.{LogsDraw, LogsLink, LogsStage, LogsTurn}
use Rattle.cx_laws_links.specs.cx_laws_tickets.specs.cx_rules.specs.Links.{Link, link_of, put_link, without_link}
use Rattle.cx_laws_links.specs.cx_laws_tickets.specs.cx_rules.specs.Monitor.{Monitor, MonitorArrival, MonitorNode, MonitorRow, MonitorStage, Offered}
use Rattle.cx_laws_links.specs.cx_laws_tickets.specs.cx_rules.specs.MonitorRule.{monitor_rule, noted, opens, turn, turned_at}
use Rattle.cx_laws_links.specs.cx_laws_tickets.specs.cx_rules.specs.Rows.{Outcome, Turned, Waits, Refuses, Handles, arrival, carried_out, fed, goes_on, links_behind, new_link, refuses, turns}
use Rattle.cx_laws_links.specs.cx_laws_tickets.specs.cx_rules.specs.Secured.{Keys}
use Rattle.cx_laws_links.specs.cx_laws_tickets.specs.cx_rules.specs.declared.responses.Bearer.{Bearer}
use Rattle.cx_laws_links.specs.cx_laws_tickets.specs.cx_run.proofs.MonitorTakes.{monitor-takes}
use Rattle.cx_laws_links.specs.cx_laws_tickets.specs.cx_run.proofs.PointsTell.{each-map, some-onto, some-until}
use Rattle.cx_laws_links.specs.cx_laws_tickets.specs.cx_run.proofs.Taking.{Takes, TurnTakes}
use Rattle.cx_laws_links.specs.cx_laws_tickets.specs.cx_run.proofs.Turning.{found-number, put-found}
use Rattle.cx_laws_links.specs.cx_laws_tickets.specs.cx_run.specs.Happenings.{EntityNode, Happening, Nodes, Stepped, entity_of, entity_rule, entity_steps, failed_out, monitor_steps, stays, steps}
use Rattle.cx_laws_links.specs.cx_laws_tickets.specs.cx_run.specs.Opening.{Declared, Setup, nodes_of, principal_of, secret_drawn, secrets_drawn}
use Rattle.cx_laws_links.specs.cx_laws_tickets.specs.cx_run.specs.Points.{EachPoint, Point, Since, entries_at, logged_until, nodes_past, onto, opens_at, points, points_onto, seals_at, stepped_at}
use Rattle.cx_steps.specs.Onto.{SomeOf}
use Rattle.cx_steps.specs.declared.effects.Effects.{Effects}
use Rattle.cx_steps.specs.declared.seals.DrawMark.{DrawMark}
use Rattle.cx_steps.specs.declared.seals.DrawMark.TheVariants as draw
use Rattle.cx_steps.specs.declared.seals.Logged.{Logged}
use Rattle.cx_steps.specs.declared.seals.SealEntry.{SealEntry}
use Rattle.cx_steps.specs.declared.seals.SealEntry.TheVariants as seal
use Rattle.cx_laws_links.specs.cx_laws_tickets.specs.cx_laws_keys.proofs.keys.Lists.{all-append, all-map, found_all, found_passes}
use Rattle.cx_laws_links.specs.cx_laws_tickets.specs.cx_laws_keys.proofs.login.Hearing.{HearsPart, part_heard}
use Rattle.cx_laws_links.specs.cx_laws_tickets.proofs.chain.NoDaemonTickets.{entity-none}
use Rattle.cx_laws_links.specs.cx_laws_tickets.specs.cx_laws_keys.proofs.login.Proving.{Bears, IsBehind, IsBehindProof, IsBehindReply, IsRinged, LinkTells, RowOf, RowTells, StageTells, none-issued, step-tells, turned-tells}
use Rattle.cx_laws_run.proofs.run.Opening.{nothing-in}
use Rattle.cx_laws_run.specs.run.Logins.{Asks, ChecksOn, IsAskedFor, IsRenewal, Offers, Proves, Stands, UncheckedSince, proof_of}

-- ---- the entities' secrets

-- the secret was drawn as this entity's
abbrev IsDrawnFor : List ℕ → Name → Logged → Type 0
IsDrawnFor secret name at = at.entry ≡ seal.Drawn (draw.Principal secret name)

-- before all events
abbrev IsTheirs : Setup → List ℕ → Name → Type 0
IsTheirs setup secret name = SomeOf (IsDrawnFor secret name) (onto (secrets_drawn setup) [])

all-theirs : (es : List Declared) (earlier : List Logged)
    → AllByRecursion (λ (p : Principal). SomeOf (IsDrawnFor p.key.secret p.name) (onto (map secret_drawn es) earlier)) (map principal_of es)
all-theirs [] earlier = tt
all-theirs (e ∷ es) earlier =
    (some-onto (IsDrawnFor (principal_of e).key.secret (principal_of e).name) (map secret_drawn es) (secret_drawn e ∷ earlier) (inl refl), all-theirs es (secret_drawn e ∷ earlier))

ringed-theirs : (setup : Setup) (offered : Offered) → IsRinged (map principal_of setup.entities) offered → IsTheirs setup offered.offer.secret offered.offer.name
ringed-theirs setup offered h =
    let p : Principal = h.principal in
    let ring : List Principal = map principal_of setup.entities in
    let same : offered.offer.name ≡ p.name = same_name_is offered.offer.name p.name (found_passes (is_named offered.offer.name) ring p h.found) in
    let theirs : IsTheirs setup p.key.secret p.name = found_all (λ (q : Principal). IsTheirs setup q.key.secret q.name) (is_named offered.offer.name) ring p (all-theirs setup.entities []) h.found in
    subst (λ (s : List ℕ). IsTheirs setup s offered.offer.name) h.secret (subst (λ (n : Name). IsTheirs setup p.key.secret n) (sym same) theirs)

-- ---- links in their places

filter-all : {X : Type 0} (P Q : X → Type 0) (test : X → Bool) → ((x : X) → test x ≡ true → P x → Q x) → (xs : List X) → AllByRecursion P xs → AllByRecursion Q (filter test xs)
filter-all P Q test f [] h = tt
filter-all {X} P Q test f (x ∷ xs) h = by_test (test x) refl (filter-all P Q test f xs h.1)
  where
    by_test : (t : Bool) → test x ≡ t → AllByRecursion Q (filter test xs) → AllByRecursion Q (cond t (x ∷ filter test xs) (filter test xs))
    by_test true is rest = (f x is h.0, rest)
    by_test false is rest = rest

-- what is said of the others where one is put into its place or left out
module _ (P Q : Link MonitorStage → Type 0) (number : ℕ) (other : (l : Link MonitorStage) → (l.number ≡ number → ⊥) → P l → Q l) where
  put-all : (link : Link MonitorStage) (links : List (Link MonitorStage)) → link.number ≡ number → Q link → AllByRecursion P links → AllByRecursion Q (put_link link links)
  put-all link links same q h =
      all-append Q (filter (λ (l : Link MonitorStage). nat_lt l.number link.number) links) _
      (filter-all P Q (λ (l : Link MonitorStage). nat_lt l.number link.number) (λ l is. other l (λ (e : l.number ≡ number). let less : l.number < link.number = ltb-true l.number link.number is in omega arith)) links h)
      (q, filter-all P Q (λ (l : Link MonitorStage). nat_lt link.number l.number) (λ l is. other l (λ (e : l.number ≡ number). let less : link.number < l.number = ltb-true link.number l.number is in omega arith)) links h)

  without-all : (links : List (Link MonitorStage)) → AllByRecursion P links → AllByRecursion Q (without_link number links)
  without-all links h = filter-all P Q (λ (l : Link MonitorStage). not (l.number == number)) (λ l is. other l (λ (e : l.number ≡ number). by_not (l.number == number) (eq-eqb l.number number e) is)) links h
    where
      by_not : (t : Bool) → t ≡ true → not t ≡ true → ⊥
      by_not true a b = absurd cc
      by_not false a b = absurd cc

-- ---- what went before a link

-- behind these points: the secret is the entity's own, and the challenge was drawn on the link that has this number now, on which no proof was found equal since
record IsWaiting (setup : Setup) (past : List Point) (number : ℕ) (offered : Offered) : Type 0 where
  theirs : IsTheirs setup offered.offer.secret offered.offer.name
  drew : UncheckedSince number (λ _ at. Offers number offered at) past

-- a proof of this entity was found equal on it
abbrev WasProven : Setup → List Point → ℕ → Name → Type 0
WasProven setup past number name = Since node.Monitor number (Proves setup number name) past

abbrev StagePreceded : Setup → List Point → ℕ → MonitorStage → Type 0
StagePreceded setup past number AwaitsBanner = Unit {0}
StagePreceded setup past number AwaitsHello = Unit {0}
StagePreceded setup past number AwaitsRequest = Unit {0}
StagePreceded setup past number (AwaitsProof offered) = IsWaiting setup past number offered
StagePreceded setup past number (AwaitsSignature s bearer) = WasProven setup past number bearer.name
StagePreceded setup past number (AwaitsIdent s bearer) = WasProven setup past number bearer.name
StagePreceded setup past number (Open s bearer) = WasProven setup past number bearer.name

abbrev LinkPreceded : Setup → List Point → Link MonitorStage → Type 0
LinkPreceded setup past link = StagePreceded setup past link.number link.stage

-- so it is of each link of the monitor, whose keyring is that of the opening
record AllPreceded (setup : Setup) (past : List Point) (nodes : Nodes) : Type 0 where
  ring : nodes.monitor.own.server.ring ≡ map principal_of setup.entities
  links : AllByRecursion (LinkPreceded setup past) nodes.monitor.links

-- a point opens no link of this number, and nothing is found equal on it there
record IsCalm (number : ℕ) (p : Point) : Type 0 where
  opens : opens_at node.Monitor number p ≡ false
  unchecked : ChecksOn number p → ⊥

-- so it is where no link is turned
calm-unturned : (number : ℕ) (p : Point) → opens_at node.Monitor number p ≡ false → (p.happening.input ≡ Turn number → ⊥) → IsCalm number p
calm-unturned number p opens unturned = record { opens = opens; unchecked = λ c. unturned c.turn }

-- what was so of a link is so behind a calm point
stage-stays : (setup : Setup) (past : List Point) (p : Point) (number : ℕ) (stage : MonitorStage) → IsCalm number p
    → StagePreceded setup past number stage → StagePreceded setup (p ∷ past) number stage
stage-stays setup past p number AwaitsBanner f h = tt
stage-stays setup past p number AwaitsHello f h = tt
stage-stays setup past p number AwaitsRequest f h = tt
stage-stays setup past p number (AwaitsProof offered) f h = record { theirs = h.theirs; drew = inr (f.opens, f.unchecked, h.drew) }
stage-stays setup past p number (AwaitsSignature s bearer) f h = inr (f.opens, h)
stage-stays setup past p number (AwaitsIdent s bearer) f h = inr (f.opens, h)
stage-stays setup past p number (Open s bearer) f h = inr (f.opens, h)

-- ---- a save that fails

draws-stay : (mark : DrawMark) (es : List SealEntry) → LogsDraw mark es → LogsDraw mark (filter stays es)
draws-stay mark [] h = h
draws-stay mark (seal.Sealed m ∷ es) (inl is) = absurd cc
draws-stay mark (seal.Sealed m ∷ es) (inr h) = draws-stay mark es h
draws-stay mark (seal.Signed m ∷ es) (inl is) = absurd cc
draws-stay mark (seal.Signed m ∷ es) (inr h) = draws-stay mark es h
draws-stay mark (seal.Opened m ∷ es) (inl is) = inl is
draws-stay mark (seal.Opened m ∷ es) (inr h) = inr (draws-stay mark es h)
draws-stay mark (seal.Checked m ∷ es) (inl is) = inl is
draws-stay mark (seal.Checked m ∷ es) (inr h) = inr (draws-stay mark es h)
draws-stay mark (seal.Drawn m ∷ es) (inl is) = inl is
draws-stay mark (seal.Drawn m ∷ es) (inr h) = inr (draws-stay mark es h)

-- these entries begin so
abbrev BeginsWith : SealEntry → List SealEntry → Type 0
BeginsWith first es = (rest : List SealEntry) × (es ≡ first ∷ rest)

filter-first : (e : SealEntry) (es : List SealEntry) → stays e ≡ true → filter stays (e ∷ es) ≡ e ∷ filter stays es
filter-first e es kept = rw kept refl

-- what a step of the monitor comes to, whether a save fails or not
record ComesTo (o : Outcome MonitorNode) (s : Stepped) : Type 0 where
  ring : s.nodes.monitor.own.server.ring ≡ o.state.own.server.ring
  links : s.nodes.monitor.links ≡ o.state.links
  drawn : (mark : DrawMark) → LogsDraw mark o.out.seals → LogsDraw mark s.out.seals
  first : (e : SealEntry) → stays e ≡ true → BeginsWith e o.out.seals → BeginsWith e s.out.seals
  silent : o.out.seals ≡ [] → s.out.seals ≡ []
  issued : (t : Issued) → Contains s.out.entries (journal.Issued t) → Contains o.out.entries (journal.Issued t)

module _ (nodes : Nodes) (o : Outcome MonitorNode) where
  comes-failed : (s : Stepped) → s.nodes.monitor.own.server.ring ≡ o.state.own.server.ring → s.nodes.monitor.links ≡ o.state.links → s.out ≡ failed_out o.out → ComesTo o s
  comes-failed s ring links out = record {
    ring = ring;
    links = links;
    drawn = λ mark h. subst (λ (e : Effects). LogsDraw mark e.seals) (sym out) (draws-stay mark o.out.seals h);
    first = λ e kept (rest, is). (filter stays rest, ap (λ (e : Effects). e.seals) out ∙ ap (λ (es : List SealEntry). filter stays es) is ∙ filter-first e rest kept);
    silent = λ none. ap (λ (e : Effects). e.seals) out ∙ ap (λ (es : List SealEntry). filter stays es) none;
    issued = λ t has. absurd (nothing-in (journal.Issued t) (subst (λ (e : Effects). Contains e.entries (journal.Issued t)) out has));
  }

  comes-saved : (s : Stepped) → s.nodes.monitor.own.server.ring ≡ o.state.own.server.ring → s.nodes.monitor.links ≡ o.state.links → s.out ≡ o.out → ComesTo o s
  comes-saved s ring links out = record {
    ring = ring;
    links = links;
    drawn = λ mark h. subst (λ (e : Effects). LogsDraw mark e.seals) (sym out) h;
    first = λ e kept h. subst (λ (x : Effects). BeginsWith e x.seals) (sym out) h;
    silent = λ none. ap (λ (e : Effects). e.seals) out ∙ none;
    issued = λ t has. subst (λ (e : Effects). Contains e.entries (journal.Issued t)) out has;
  }

  comes-to : (l : Option LeftState) (saved : Option KeptState) → ComesTo o (monitor_steps nodes o l saved)
  comes-to (Some left.Old) (Some saved) = comes-failed (monitor_steps nodes o (Some left.Old) (Some saved)) refl refl refl
  comes-to (Some left.New) (Some saved) = comes-failed (monitor_steps nodes o (Some left.New) (Some saved)) refl refl refl
  comes-to None saved = comes-saved (monitor_steps nodes o None saved) refl refl refl
  comes-to (Some l) None = comes-saved (monitor_steps nodes o (Some l) None) refl refl refl

-- ---- at a turn of the monitor

-- a ticket was asked for; where it is a renewal, what opened first came on its link
abbrev pub IsHeardFor : Setup → List Point → Point → Issued → Type 0
IsHeardFor setup older p t =
    ((number : ℕ) × Proves setup number t.entity older p) ⊎ ((renewal : IsRenewal setup older p t) × HearsPart renewal.secured.keys (seals_at p))

-- so is each ticket of this point
abbrev pub Hears : Setup → List Point → Point → Type 0
Hears setup older p = (t : Issued) → Contains (entries_at p) (journal.Issued t) → IsHeardFor setup older p t

-- the bearer of a link proved itself on it
borne : (setup : Setup) (past : List Point) (number : ℕ) (stage : MonitorStage) (bearer : Bearer) → Bears stage bearer → StagePreceded setup past number stage
    → WasProven setup past number bearer.name
borne setup past number AwaitsBanner bearer none h = absurd none
borne setup past number AwaitsHello bearer none h = absurd none
borne setup past number AwaitsRequest bearer none h = absurd none
borne setup past number (AwaitsProof offered) bearer none h = absurd none
borne setup past number (AwaitsSignature s b) bearer same h = subst (λ (name : Name). WasProven setup past number name) same.name h
borne setup past number (AwaitsIdent s b) bearer same h = subst (λ (name : Name). WasProven setup past number name) same.name h
borne setup past number (Open s b) bearer same h = subst (λ (name : Name). WasProven setup past number name) same.name h

-- what went before a link that is found
found-preceded : (setup : Setup) (past : List Point) (nodes : Nodes) (number : ℕ) (link : Link MonitorStage) → link_of number nodes.monitor.links ≡ Some link
    → AllPreceded setup past nodes → StagePreceded setup past number link.stage
found-preceded setup past nodes number link found ok =
    subst (λ (n : ℕ). StagePreceded setup past n link.stage) (found-number number nodes.monitor.links link found)
    (found_all (LinkPreceded setup past) (λ (l : Link MonitorStage). l.number == number) nodes.monitor.links link ok.links found)

module _ (setup : Setup) (past : List Point) (p : Point) (number : ℕ) (monitor : p.happening.node ≡ node.Monitor) (turn_is : p.happening.input ≡ Turn number)
    (link : Link MonitorStage) (found : link_of number p.nodes.monitor.links ≡ Some link) (ok : AllPreceded setup past p.nodes) where
  -- a proof that is found equal at it
  proves-here : (o : Outcome MonitorNode) (name : Name) → ComesTo o (stepped_at p) → IsBehindProof link.stage name o.out.seals → Proves setup number name past p
  proves-here o name comes proof =
      let offered : Offered = proof.offered in
      let waits : IsWaiting setup past number offered =
      subst (λ (stage : MonitorStage). StagePreceded setup past number stage) proof.stage_is (found-preceded setup past p.nodes number link found ok) in
      let first = comes.first (seal.Checked (proof_of offered.offer proof.client_challenge)) refl (proof.rest, proof.checked) in
      record {
        monitor = monitor;
        turn = turn_is;
        link = link;
        found = found;
        offered = offered;
        stage = proof.stage_is;
        named = proof.named;
        secret = subst (λ (n : Name). SomeOf (λ (at : Logged). at.entry ≡ seal.Drawn (draw.Principal offered.offer.secret n)) (logged_until setup past)) proof.named
            (some-until setup (IsDrawnFor offered.offer.secret offered.offer.name) past waits.theirs);
        drew = waits.drew;
        client_challenge = proof.client_challenge;
        rest = first.0;
        checked = first.1;
      }

  -- a ticket that is issued at it for the bearer of the open link
  renews-here : (t : Issued) (seals : List SealEntry) → IsBehindReply link.stage t seals → IsRenewal setup past p t
  renews-here t seals reply =
      let earlier : WasProven setup past number reply.bearer.name =
      subst (λ (stage : MonitorStage). StagePreceded setup past number stage) reply.stage_is (found-preceded setup past p.nodes number link found ok) in
      record {
        monitor = monitor;
        number = number;
        turn = turn_is;
        link = link;
        found = found;
        secured = reply.secured;
        bearer = reply.bearer;
        stage = reply.stage_is;
        named = reply.of.named;
        gid = reply.of.gid;
        service = reply.of.service;
        login = subst (λ (name : Name). WasProven setup past number name) (sym reply.of.named) earlier;
      }

  -- and the part that opened first of what came on it
  heard-here : (o : Outcome MonitorNode) (keys : Keys) → ComesTo o (stepped_at p) → HearsPart keys o.out.seals → HearsPart keys (seals_at p)
  heard-here o keys comes heard =
      let first = comes.first (seal.Opened (part_heard keys heard.plain)) refl (heard.rest, heard.opened) in
      record { plain = heard.plain; rest = first.0; opened = first.1 }

  asked-here : (o : Outcome MonitorNode) (t : Issued) → ComesTo o (stepped_at p) → IsBehind link.stage t o.out.seals → IsHeardFor setup past p t
  unfolding renews-here
  asked-here o t comes (inl proof) = inl (number, proves-here o t.entity comes proof)
  asked-here o t comes (inr reply) = inr (renews-here t o.out.seals reply, heard-here o reply.secured.keys comes reply.heard)

-- ---- a turn of the monitor

module _ (setup : Setup) (past : List Point) (nodes : Nodes) (number reading : ℕ) (block : List ℕ) (line : ℕ) (failing : Option LeftState) where
  abbrev turn_point : Point
  turn_point = record { nodes = nodes; happening = record { node = node.Monitor; input = Turn number; reading = reading; draw = block; line = line; left = failing } }

  abbrev TurnedWell : Outcome MonitorNode → Type 0
  TurnedWell o = (o.state.own.server.ring ≡ nodes.monitor.own.server.ring) × AllByRecursion (LinkPreceded setup (turn_point ∷ past)) o.state.links

  -- another link than the one that is turned
  turn-stays : (l : Link MonitorStage) → (number ≡ l.number → ⊥) → LinkPreceded setup past l → LinkPreceded setup (turn_point ∷ past) l
  turn-stays l other h = stage-stays setup past turn_point l.number l.stage (calm-unturned l.number turn_point refl (λ is. other (let same : number ≡ l.number = cc in same))) h

  -- any link, where nothing is logged
  silent-stays : seals_at turn_point ≡ [] → (l : Link MonitorStage) → LinkPreceded setup past l → LinkPreceded setup (turn_point ∷ past) l
  silent-stays none l h =
      stage-stays setup past turn_point l.number l.stage (record { opens = refl; unchecked = λ c. let is : [] ≡ seal.Checked c.mark ∷ c.rest = sym none ∙ c.checked in cc }) h

  -- the link that goes on in a stage
  module _ (before : Link MonitorStage) (o : Outcome MonitorNode) (found : link_of number nodes.monitor.links ≡ Some before) (ok : AllPreceded setup past nodes)
      (comes : ComesTo o (steps nodes turn_point.happening)) where
    goes-borne : (bearer : Bearer) → Bears before.stage bearer → WasProven setup (turn_point ∷ past) number bearer.name
    goes-borne bearer same = inr (refl, borne setup past number before.stage bearer same (found-preceded setup past nodes number before found ok))

    goes-preceded : (link : Link MonitorStage) (a : MonitorArrival) (stage : MonitorStage) → link.stage ≡ stage → LogsStage a o.out.seals stage
        → StageTells nodes.monitor.own.server.ring before.stage o.out.seals stage → link_of number (nodes_past turn_point).monitor.links ≡ Some link
        → StagePreceded setup (turn_point ∷ past) number stage
    goes-preceded link a AwaitsBanner is logs tells behind = tt
    goes-preceded link a AwaitsHello is logs tells behind = tt
    goes-preceded link a AwaitsRequest is logs tells behind = tt
    goes-preceded link a (AwaitsProof offered) is logs tells behind = record {
      theirs = ringed-theirs setup offered (subst (λ (ring : List Principal). IsRinged ring offered) ok.ring tells);
      drew = inl (record {
        monitor = refl;
        turn = refl;
        drew = subst (λ (c : ℕ). LogsDraw (draw.Challenge c) (seals_at turn_point)) (sym logs.0) (comes.drawn (draw.Challenge (challenge_of a.draw)) logs.1);
        link = link;
        found = behind;
        stage = is;
      });
    }
    goes-preceded link a (AwaitsSignature s bearer) is logs tells behind = inl (proves-here setup past turn_point number refl refl before found ok o bearer.name comes tells)
    goes-preceded link a (AwaitsIdent s bearer) is logs tells behind = goes-borne bearer tells
    goes-preceded link a (Open s bearer) is logs tells behind = goes-borne bearer tells

  row-preceded : (a : MonitorArrival) (row : MonitorRow) (behind : Option (Link MonitorStage)) → row.link ≡ behind → link_of number nodes.monitor.links ≡ Some a.link
      → AllPreceded setup past nodes → ComesTo (carried_out (noted nodes.monitor) a.link.number true row) (steps nodes turn_point.happening)
      → Takes a.link behind → LogsLink a row.seals behind → LinkTells nodes.monitor.own.server.ring a.link.stage row.seals behind
      → AllByRecursion (LinkPreceded setup (turn_point ∷ past)) (links_behind nodes.monitor.links a.link.number row.sends behind)
  row-preceded a row None is at_link ok comes takes logs tells =
      without-all (LinkPreceded setup past) (LinkPreceded setup (turn_point ∷ past)) a.link.number
      (λ l ne h. turn-stays l (λ same. ne (sym same ∙ sym (found-number number nodes.monitor.links a.link at_link))) h) nodes.monitor.links ok.links
  row-preceded a row (Some l) is at_link ok comes takes logs tells =
      let sent : Link MonitorStage = record l { sent = l.sent ++ row.sends } in
      let numbered : l.number ≡ number = takes.0 ∙ found-number number nodes.monitor.links a.link at_link in
      let put : List (Link MonitorStage) = put_link sent nodes.monitor.links in
      let links : (nodes_past turn_point).monitor.links ≡ put =
      comes.links ∙ ap (λ (o : Option (Link MonitorStage)). links_behind nodes.monitor.links a.link.number row.sends o) is in
      let behind : link_of l.number (nodes_past turn_point).monitor.links ≡ Some sent =
      ap (λ (ls : List (Link MonitorStage)). link_of l.number ls) links ∙ put-found sent nodes.monitor.links (filter (λ (k : Link MonitorStage). nat_lt sent.number k.number) nodes.monitor.links) in
      let here : link_of number (nodes_past turn_point).monitor.links ≡ Some sent =
      subst (λ (n : ℕ). link_of n (nodes_past turn_point).monitor.links ≡ Some sent) numbered behind in
      put-all (LinkPreceded setup past) (LinkPreceded setup (turn_point ∷ past)) l.number (λ k ne h. turn-stays k (λ same. ne (sym same ∙ sym numbered)) h) sent nodes.monitor.links refl
      (subst (λ (n : ℕ). StagePreceded setup (turn_point ∷ past) n l.stage) (sym numbered)
      (goes-preceded a.link (carried_out (noted nodes.monitor) a.link.number true row) at_link ok comes sent a l.stage refl logs tells here)) ok.links

  turned-preceded : (a : MonitorArrival) (turned : Turned Monitor MonitorStage) → link_of number nodes.monitor.links ≡ Some a.link → AllPreceded setup past nodes
      → ComesTo (turns (noted nodes.monitor) a turned) (steps nodes turn_point.happening) → TurnTakes a.link turned → LogsTurn a turned
      → RowOf (RowTells nodes.monitor.own.server.ring a.link.stage) turned → a.own ≡ (noted nodes.monitor).own → TurnedWell (turns (noted nodes.monitor) a turned)
  turned-preceded a Waits at_link ok comes takes logs tells own =
      (refl, all-map (LinkPreceded setup past) (LinkPreceded setup (turn_point ∷ past)) (silent-stays (comes.silent refl)) nodes.monitor.links ok.links)
  turned-preceded a (Refuses why opened) at_link ok comes takes logs tells own = (
    ap (λ (m : Monitor). m.server.ring) own,
    without-all (LinkPreceded setup past) (LinkPreceded setup (turn_point ∷ past)) a.link.number
        (λ l ne h. turn-stays l (λ same. ne (sym same ∙ sym (found-number number nodes.monitor.links a.link at_link))) h) nodes.monitor.links ok.links,
  )
  turned-preceded a (Handles row) at_link ok comes takes logs tells own =
      (tells.ring_stays, row-preceded a row row.link refl at_link ok comes takes logs tells.link)

  link-preceded : (found : Option (Link MonitorStage)) → link_of number nodes.monitor.links ≡ found → AllPreceded setup past nodes
      → ComesTo (turn (noted nodes.monitor) reading block found) (steps nodes turn_point.happening) → TurnedWell (turn (noted nodes.monitor) reading block found)
  link-preceded None is ok comes =
      (refl, all-map (LinkPreceded setup past) (LinkPreceded setup (turn_point ∷ past)) (silent-stays (comes.silent refl)) nodes.monitor.links ok.links)
  link-preceded (Some link) is ok comes =
      let a : MonitorArrival = arrival node.Monitor (noted nodes.monitor).own link reading block in
      turned-preceded a (turned_at a link.stage) is ok comes (monitor-takes a link.stage) (monitor-logs a) (turned-tells a link.stage) refl

-- ---- any event of the monitor

module _ (setup : Setup) (past : List Point) (nodes : Nodes) (reading : ℕ) (block : List ℕ) (line : ℕ) (failing : Option LeftState) where
  abbrev point_of : Input → Point
  point_of input = record { nodes = nodes; happening = record { node = node.Monitor; input = input; reading = reading; draw = block; line = line; left = failing } }

  abbrev PrecededBehind : Input → Link MonitorStage → Type 0
  PrecededBehind input l = LinkPreceded setup (point_of input ∷ past) l

  -- the links of other numbers than that of a link that opens
  stays-unopened : (number : ℕ) (to : Option _) (l : Link MonitorStage) → (l.number ≡ number → ⊥) → LinkPreceded setup past l → PrecededBehind (Opened number to) l
  stays-unopened number to l ne h =
      stage-stays setup past (point_of (Opened number to)) l.number l.stage (calm-unturned l.number (point_of (Opened number to)) (by_test (number == l.number) refl) (λ is. cc)) h
    where
      by_test : (t : Bool) → (number == l.number) ≡ t → (number == l.number) ≡ false
      by_test true is = absurd (ne (sym (eqb-true number l.number is)))
      by_test false is = is

  opened-preceded : (number : ℕ) (to : Option _) → AllPreceded setup past nodes
      → AllByRecursion (PrecededBehind (Opened number to)) (opens (noted nodes.monitor) reading block (new_link number AwaitsBanner)).state.links
  opened-preceded number to ok = by_test (nat_le 1024 (length nodes.monitor.links))
    where
      link : Link MonitorStage
      link = new_link number AwaitsBanner

      by_test : (full : Bool) → AllByRecursion (PrecededBehind (Opened number to)) (carried_out (noted nodes.monitor) number false
          (if full then refuses (arrival node.Monitor (noted nodes.monitor).own (new_link number AwaitsBanner) reading block) LinksFull []
          else goes_on (arrival node.Monitor (noted nodes.monitor).own (new_link number AwaitsBanner) reading block) AwaitsBanner own_banner [])).state.links
      by_test true = without-all (LinkPreceded setup past) (PrecededBehind (Opened number to)) number (stays-unopened number to) nodes.monitor.links ok.links
      by_test false = put-all (LinkPreceded setup past) (PrecededBehind (Opened number to)) number (stays-unopened number to) _ nodes.monitor.links refl tt ok.links

  bytes-preceded : (number : ℕ) (bytes : List ℕ) (found : Option (Link MonitorStage)) → link_of number nodes.monitor.links ≡ found → AllPreceded setup past nodes
      → AllByRecursion (PrecededBehind (Bytes number bytes)) (fed (noted nodes.monitor) bytes found).state.links
  bytes-preceded number bytes found is ok = by_found found is
    where
      stays-here : (l : Link MonitorStage) → LinkPreceded setup past l → PrecededBehind (Bytes number bytes) l
      stays-here l h = stage-stays setup past (point_of (Bytes number bytes)) l.number l.stage (calm-unturned l.number (point_of (Bytes number bytes)) refl (λ is. cc)) h

      by_found : (found : Option (Link MonitorStage)) → link_of number nodes.monitor.links ≡ found → AllByRecursion (PrecededBehind (Bytes number bytes)) (fed (noted nodes.monitor) bytes found).state.links
      by_found None is = all-map (LinkPreceded setup past) (PrecededBehind (Bytes number bytes)) stays-here nodes.monitor.links ok.links
      by_found (Some link) is =
          put-all (LinkPreceded setup past) (PrecededBehind (Bytes number bytes)) link.number (λ l ne h. stays-here l h) (record link { received = link.received ++ bytes }) nodes.monitor.links refl
          (stays-here link (found_all (LinkPreceded setup past) (λ (l : Link MonitorStage). l.number == number) nodes.monitor.links link ok.links is)) ok.links

  abbrev RingAndLinks : Input → Type 0
  RingAndLinks input = let o = monitor_rule nodes.monitor input reading block in
      (o.state.own.server.ring ≡ nodes.monitor.own.server.ring) × AllByRecursion (PrecededBehind input) o.state.links

  fed-ring : (bytes : List ℕ) (found : Option (Link MonitorStage)) → (fed (noted nodes.monitor) bytes found).state.own.server.ring ≡ nodes.monitor.own.server.ring
  fed-ring bytes None = refl
  fed-ring bytes (Some link) = refl

  opened-ring : (number : ℕ) → (opens (noted nodes.monitor) reading block (new_link number AwaitsBanner)).state.own.server.ring ≡ nodes.monitor.own.server.ring
  opened-ring number = by_test (nat_le 1024 (length nodes.monitor.links))
    where
      by_test : (full : Bool) → (carried_out (noted nodes.monitor) number false
          (if full then refuses (arrival node.Monitor (noted nodes.monitor).own (new_link number AwaitsBanner) reading block) LinksFull []
          else goes_on (arrival node.Monitor (noted nodes.monitor).own (new_link number AwaitsBanner) reading block) AwaitsBanner own_banner [])).state.own.server.ring ≡ nodes.monitor.own.server.ring
      by_test true = refl
      by_test false = refl

  -- where no link opens and none is turned
  same-links : (input : Input) → ((n : ℕ) → IsCalm n (point_of input)) → AllPreceded setup past nodes → AllByRecursion (PrecededBehind input) nodes.monitor.links
  same-links input f ok =
      all-map (LinkPreceded setup past) (PrecededBehind input) (λ l h. stage-stays setup past (point_of input) l.number l.stage (f l.number) h) nodes.monitor.links ok.links

  ring-and-links : (input : Input) → AllPreceded setup past nodes → RingAndLinks input
  ring-and-links (Opened number to) ok = (opened-ring number, opened-preceded number to ok)
  ring-and-links (Bytes number bytes) ok = (fed-ring bytes (link_of number nodes.monitor.links), bytes-preceded number bytes (link_of number nodes.monitor.links) refl ok)
  ring-and-links (Turn number) ok =
      link-preceded setup past nodes number reading block line failing (link_of number nodes.monitor.links) refl ok
      (comes-to nodes (monitor_rule nodes.monitor (Turn number) reading block) failing (monitor_rule nodes.monitor (Turn number) reading block).out.save)
  ring-and-links (Gone number) ok = (
    refl,
    without-all (LinkPreceded setup past) (PrecededBehind (Gone number)) number
        (λ l ne h. stage-stays setup past (point_of (Gone number)) l.number l.stage (calm-unturned l.number (point_of (Gone number)) refl (λ is. cc)) h) nodes.monitor.links ok.links,
  )
  ring-and-links Restart ok = (refl, tt)
  ring-and-links (NoLink to) ok = (refl, same-links (NoLink to) (λ n. calm-unturned n (point_of (NoLink to)) refl (λ is. cc)) ok)
  ring-and-links (Look view) ok = (refl, same-links (Look view) (λ n. calm-unturned n (point_of (Look view)) refl (λ is. cc)) ok)
  ring-and-links Tick ok = (refl, same-links Tick (λ n. calm-unturned n (point_of Tick) refl (λ is. cc)) ok)
  ring-and-links (Submit said) ok = (refl, same-links (Submit said) (λ n. calm-unturned n (point_of (Submit said)) refl (λ is. cc)) ok)

  monitor-preceded : (input : Input) → AllPreceded setup past nodes → AllPreceded setup (point_of input ∷ past) (nodes_past (point_of input))
  monitor-preceded input ok =
      let o : Outcome MonitorNode = monitor_rule nodes.monitor input reading block in
      let comes : ComesTo o (steps nodes (point_of input).happening) = comes-to nodes o failing o.out.save in
      let both = ring-and-links input ok in
      record {
        ring = comes.ring ∙ both.0 ∙ ok.ring;
        links = subst (λ (ls : List (Link MonitorStage)). AllByRecursion (PrecededBehind input) ls) (sym comes.links) both.1;
      }

  -- each ticket of the event was asked for
  monitor-asks : (input : Input) → AllPreceded setup past nodes → Hears setup past (point_of input)
  monitor-asks input ok t has =
      let o : Outcome MonitorNode = monitor_rule nodes.monitor input reading block in
      let comes : ComesTo o (steps nodes (point_of input).happening) = comes-to nodes o failing o.out.save in
      let q = step-tells (noted nodes.monitor) input reading block t (comes.issued t has) in
      asked-here setup past (point_of input) q.number refl q.turn_is q.link q.found ok o t comes q.behind

-- ---- any event

-- what is so behind an event, and of its tickets
record StepsTo (setup : Setup) (past : List Point) (p : Point) : Type 0 where
  preceded : AllPreceded setup (p ∷ past) (nodes_past p)
  asks : Hears setup past p

module _ (setup : Setup) (past : List Point) (nodes : Nodes) (input : Input) (reading : ℕ) (block : List ℕ) (line : ℕ) (failing : Option LeftState) where
  abbrev point_at : NodeName → Point
  point_at n = record { nodes = nodes; happening = record { node = n; input = input; reading = reading; draw = block; line = line; left = failing } }

  entity-preceded : (name : Name) (found : Option EntityNode) → AllPreceded setup past nodes
      → AllPreceded setup (point_at (node.Entity name) ∷ past) (entity_steps nodes (point_at (node.Entity name)).happening name found).nodes
  entity-preceded name found ok = by_found found
    where
      links : AllByRecursion (LinkPreceded setup (point_at (node.Entity name) ∷ past)) nodes.monitor.links
      links = all-map (LinkPreceded setup past) (LinkPreceded setup (point_at (node.Entity name) ∷ past))
          (λ l h. stage-stays setup past (point_at (node.Entity name)) l.number l.stage (record { opens = refl; unchecked = λ c. let is : node.Entity name ≡ node.Monitor = c.monitor in cc }) h)
          nodes.monitor.links ok.links

      by_found : (found : Option EntityNode) → AllPreceded setup (point_at (node.Entity name) ∷ past) (entity_steps nodes (point_at (node.Entity name)).happening name found).nodes
      by_found None = record { ring = ok.ring; links = links }
      by_found (Some entity) = record { ring = ok.ring; links = links }

  entity-asks : (name : Name) (found : Option EntityNode) → (t : Issued)
      → Contains (entity_steps nodes (point_at (node.Entity name)).happening name found).out.entries (journal.Issued t) → ⊥
  entity-asks name None t has = nothing-in (journal.Issued t) has
  entity-asks name (Some entity) t has =
      none-issued (entity_rule nodes.handlers entity input reading block).out.entries (entity-none nodes.handlers entity input reading block) t has

  goes : (n : NodeName) → AllPreceded setup past nodes → StepsTo setup past (point_at n)
  goes node.Monitor ok = record {
    preceded = monitor-preceded setup past nodes reading block line failing input ok;
    asks = monitor-asks setup past nodes reading block line failing input ok;
  }
  goes (node.Entity name) ok = record {
    preceded = entity-preceded name (entity_of name nodes) ok;
    asks = λ t has. absurd (entity-asks name (entity_of name nodes) t has);
  }

-- ---- every list of events

asked-onto : (setup : Setup) (hs : List Happening) (past : List Point) (nodes : Nodes) → AllPreceded setup past nodes → EachPoint (Hears setup) past
    → EachPoint (Hears setup) (points_onto past nodes hs)
asked-onto setup [] past nodes ok each = each
asked-onto setup (h ∷ hs) past nodes ok each =
    let g = goes setup past nodes h.input h.reading h.draw h.line h.left h.node ok in
    asked-onto setup hs (record { nodes = nodes; happening = h } ∷ past) (steps nodes h).nodes g.preceded (g.asks, each)

pub all-heard : (setup : Setup) (hs : List Happening) → EachPoint (Hears setup) (points setup hs)
all-heard setup hs = asked-onto setup hs [] (nodes_of setup) (record { ring = refl; links = tt }) tt

pub all-asked : (setup : Setup) (hs : List Happening) → Stands setup hs
all-asked setup hs = record { asked = each-map (Hears setup) (Asks setup) (λ older p hears t has. by_heard older p t (hears t has)) (points setup hs) (all-heard setup hs) }
  where
    by_heard : (older : List Point) (p : Point) (t : Issued) → IsHeardFor setup older p t → IsAskedFor setup older p t
    by_heard older p t (inl proof) = inl proof
    by_heard older p t (inr (renewal, heard)) = inr renewal
