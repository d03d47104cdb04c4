-- A turn of a daemon's own link to the monitor, and its asking for generations, keep what is known of links to the monitor; and each fetch that is entered is what
-- the monitor replied behind its asking.
use Rattle.std.proofs.Common.{◌≡◌, ℕ, Bool, true, false, List, ◌∷◌, ◌++◌, Option, Some, None, refl, sym, ap, subst}
use Rattle.std.specs.Option.{option_map}
use Rattle.std.specs.Prelude.{Contains, IfSome}
use Rattle.cx_base.specs.Names.{Name}
use Rattle.cx_base.specs.declared.nodes.NodeName.{NodeName}
use Rattle.cx_base.specs.declared.nodes.NodeName.TheVariants as node
use Rattle.cx_journal.specs.declared.entries.Entry.{Entry}
use Rattle.cx_journal.specs.declared.entries.Entry.TheVariants as journal
use Rattle.cx_journal.specs.declared.entries.Fetched.{Fetched}
use Rattle.cx_laws_run.proofs.cover.MonClientAsks.{rotating-behind}
use Rattle.cx_laws_run.proofs.cover.MonClientBehind.{MonClientBehind}
use Rattle.cx_laws_run.proofs.cover.MonClientFirst.{HasBehind, TurnBehind}
use Rattle.cx_laws_run.proofs.cover.MonClientTurned.{mon_client-turned}
use Rattle.cx_laws_run.proofs.cover.DaemonQuiet.{idle, link-stays}
use Rattle.cx_laws_run.proofs.cover.DaemonReady.{DaemonReady, Keeps, NodeBehind}
use Rattle.cx_laws_run.proofs.cover.OtherLinks.{behind-others}
use Rattle.cx_laws_run.proofs.cover.OwnRows.{EntersSo, FetchedAt, FetchedNext, NoFetch, TurnOwn, request-own, turn-own}
use Rattle.cx_laws_run.proofs.cover.State.{MonClientHas, DaemonStageHas}
use Rattle.cx_laws_run.proofs.truth.DaemonWalk.{one-of}
use Rattle.cx_laws_run.specs.cx_laws_tickets.proofs.fetch.AllTold.{WasAsked, WasDrawn}
use Rattle.cx_laws_run.specs.cx_laws_tickets.proofs.fetch.AskedKnown.{MonClientTold, Told}
use Rattle.cx_laws_run.specs.cx_laws_tickets.proofs.fetch.MonClientFacts.{StageTold, found-open, kept-is}
use Rattle.cx_laws_run.specs.cx_laws_tickets.proofs.fetch.MonClientReply.{WereReplied}
use Rattle.cx_laws_run.specs.cx_laws_tickets.proofs.fetch.MonClientTurn.{open-replied}
use Rattle.cx_laws_run.specs.cx_laws_tickets.proofs.fetch.PointEvents.{events_of, more-events}
use Rattle.cx_laws_run.specs.cx_laws_tickets.proofs.fetch.RepliedMoments.{WasReplied}
use Rattle.cx_laws_run.specs.cx_laws_tickets.proofs.fetch.Retied.{Handed, retied}
use Rattle.cx_laws_run.specs.cx_laws_keys.proofs.keys.Premises.{AreGranted, behind, granted-first}
use Rattle.cx_laws_run.specs.cx_laws_keys.proofs.keys.Uses.{AtMonitor, Connected, Means, Secret, Uses, WholeRun}
use Rattle.cx_laws_run.specs.cx_rules.specs.Connector as connector
use Rattle.cx_laws_run.specs.cx_rules.specs.Connector.{MonClientArrival, MonClientRow}
use Rattle.cx_laws_run.specs.cx_rules.specs.Fronts.{opened_parts, sealed_ahead}
use Rattle.cx_laws_run.specs.cx_rules.specs.Holdings.{MonClient}
use Rattle.cx_laws_run.specs.cx_rules.specs.Links.{Link}
use Rattle.cx_laws_run.specs.cx_rules.specs.Requests.{Requests, asks_rotating, first_open, sealed_request}
use Rattle.cx_laws_run.specs.cx_rules.specs.Rows.{Arrival, Outcome, Row, Turned, Waits, Refuses, Handles, arrival, carried_out, lifted, refuses_bytes, turns}
use Rattle.cx_laws_run.specs.cx_rules.specs.Secured.{Secured}
use Rattle.cx_laws_run.specs.cx_rules.specs.declared.requests.Want.TheVariants as want
use Rattle.cx_laws_run.specs.cx_rules_session.specs.DaemonRule.{AsAcceptor, AsConnector, Daemon, DaemonNode, DaemonStage, asking_open, fetches_on, me, open_to_ask, with_mon_client}
use Rattle.cx_laws_run.specs.cx_rules_session.specs.Kinds.{arrival_in, of_kind, row_of_kind, turn_of_kind}
use Rattle.cx_laws_run.specs.cx_run.proofs.Taking.{EachRow}
use Rattle.cx_laws_run.specs.cx_run.specs.Points.{Before, Point}
use Rattle.cx_laws_run.specs.cx_wire.specs.declared.bodies.Request.TheVariants as asked
use Rattle.cx_steps.specs.declared.effects.Effects.{Effects}
use Rattle.cx_steps.specs.declared.seals.Logged.{Logged}
use Rattle.cx_steps.specs.declared.seals.SealEntry.{SealEntry}

module _ (run : WholeRun) (whole : List Logged) (us vs : Uses) (logins : List Handed) (told : Told) (past : List Point) (p : Point) (log : List Logged) (J : List Entry) (d : DaemonNode)
    (r : DaemonReady run whole us vs logins told past p log J d) where
  abbrev name : Name
  name = d.own.mon_client.name

  abbrev n : NodeName
  n = node.Entity d.own.mon_client.name

  abbrev line : ℕ
  line = p.happening.line

  abbrev before_us : Uses
  before_us = retied logins us

  abbrev behind_us : Uses
  behind_us = retied logins vs

  abbrev Node_ : Outcome DaemonNode → Type 0
  Node_ o = NodeBehind run us vs logins told past p log d.own.mon_client.name o

  abbrev later : List SealEntry → List Logged
  later es = behind n line es log

  abbrev Keeps_ : Outcome DaemonNode → Type 0
  Keeps_ o = Keeps run whole us vs logins told past p log d o

  abbrev at_link : Link DaemonStage → Arrival Daemon DaemonStage
  at_link link = arrival (me d.own) d.own link p.happening.reading p.happening.draw

  -- ---- a turn of its own link

  module _ (link : Link DaemonStage) (stage : connector.Stage) where
    abbrev a : MonClientArrival
    a = arrival_in (at_link link) d.own.mon_client stage

    -- generations that are taken on an open link were replied
    taken-replied : (s : Secured) (q : Requests) → MonClientTold (events_of past) before_us told log name link.number (connector.Open s q) → (seals : List SealEntry)
        → AreGranted run.leaked whole n line log seals → (f : Fetched) → FetchedNext a s q seals f → Before (WasReplied f) past
    taken-replied s q so seals g f h =
        let granted = granted-first run.leaked whole n line log (opened_parts (sealed_ahead s.keys a.link)) h.rest (subst (λ (es : List SealEntry). AreGranted run.leaked whole n line log es) h.logs g) in
        let w : WereReplied (events_of past) name d.own.mon_client.secret f.asked f.generations =
        open-replied run whole before_us behind_us log J n line r.mon_client.one r.mon_client.grows r.mon_client.inv (events_of past) (events_of (p ∷ past)) (more-events p past) told r.mon_client.known_of name link.number s q so
        (λ excepted. r.mon_client.free s.keys.key (Connected node.Monitor so.0.is.number name (AtMonitor so.0.challenge)) so.0.is.means refl excepted) a.link h.frame h.size granted h.read r.free
        d.own.mon_client.secret f.asked f.generations h.taken_of.opened h.taken_of.views in
        r.reads f h.taken_of.daemon w.blob w.replied w.told w.opens w.told_is

    stage-fetched : (st : connector.Stage) → MonClientHas (events_of past) before_us logins told log name link.number link.sent st → (seals : List SealEntry)
        → AreGranted run.leaked whole n line log seals → (f : Fetched) → FetchedAt a st seals f → Before (WasReplied f) past
    stage-fetched (connector.Open s q) has seals g f h = taken-replied s q has seals g f h
    stage-fetched (connector.AwaitsBanner asked) has seals g f h = absurd h
    stage-fetched (connector.AwaitsHello asked) has seals g f h = absurd h
    stage-fetched (connector.AwaitsChallenge asked) has seals g f h = absurd h
    stage-fetched connector.AwaitsDone has seals g f h = absurd h
    stage-fetched (connector.AwaitsSignature s login) has seals g f h = absurd h
    stage-fetched (connector.AwaitsIdent s session) has seals g f h = absurd h

    -- a row, by what it comes to on its link
    own-node : (turned : Bool) (row : MonClientRow) → MonClientBehind (HasBehind run whole before_us behind_us logins told past p name log J r.mon_client link.number) run before_us behind_us logins told past p name log link.number row
        → ((f : Fetched) → Contains row.entries (journal.Fetched f) → Before (WasReplied f) past)
        → Node_ (carried_out d link.number turned (row_of_kind (with_mon_client d.own) AsConnector row))
    own-node turned row b fetched = record {
      next = b.next;
      moved = b.moved;
      apart = λ m other l challenge drew key is. b.apart m l (λ both. other (sym both.0)) challenge drew key is;
      quiet = b.quiet;
      known_of = b.known_of;
      handed = b.handed;
      links = behind-others
          (λ (l : Link DaemonStage). DaemonStageHas (events_of past) before_us logins told log name l.number l.sent l.stage)
          (λ (l : Link DaemonStage). DaemonStageHas (events_of (p ∷ past)) behind_us logins b.next (later row.seals) name l.number l.sent l.stage) link.number
          (λ l other h. link-stays run whole us vs logins told past p log J d r row.seals b.next b.moved l.number (λ challenge drew key is. b.apart name l.number (λ both. other (sym both.1)) challenge drew key is) l.sent l.stage h)
          d.links row.sends (option_map (of_kind AsConnector) row.link) (own row.link b.link_has) r.links;
      fetched = fetched;
    }
      where
        own : (left : Option (Link connector.Stage))
            → IfSome left (λ (l : Link connector.Stage). (l.number ≡ link.number) × MonClientHas (events_of (p ∷ past)) behind_us logins b.next (later row.seals) name link.number (l.sent ++ row.sends) l.stage)
            → IfSome (option_map (of_kind AsConnector) left)
            (λ (l : Link DaemonStage). (l.number ≡ link.number) × DaemonStageHas (events_of (p ∷ past)) behind_us logins b.next (later row.seals) name l.number (l.sent ++ row.sends) l.stage)
        own None h = tt
        own (Some l) h =
            (h.0, subst (λ (k : ℕ). MonClientHas (events_of (p ∷ past)) behind_us logins b.next (later row.seals) name k (l.sent ++ row.sends) l.stage) (sym h.0) h.1)

    own-turned : MonClientHas (events_of past) before_us logins told log name link.number link.sent stage → (turned : Turned MonClient connector.Stage)
        → TurnBehind run whole before_us behind_us logins told past p name log J r.mon_client link.number a turned → EachRow (TurnOwn a stage) turned
        → Keeps_ (turns d (at_link link) (turn_of_kind (with_mon_client d.own) AsConnector turned))
    own-turned has Waits tb own = idle run whole us vs logins told past p log J d r
    own-turned has (Refuses why opened) tb own = λ at g had.
        own-node false (refuses_bytes a why opened) (tb (record { seals_are = ap (λ (e : Effects). e.seals) at; sends_are = ap (λ (e : Effects). e.sends) at; granted = g }))
        (λ f has_it. absurd (one-of (EntersSo NoFetch) (refuses_bytes a why opened).entries (journal.Fetched f) (tt, tt) has_it))
    own-turned has (Handles row) tb own = λ at g had.
        own-node true row (tb (record { seals_are = ap (λ (e : Effects). e.seals) at; sends_are = ap (λ (e : Effects). e.sends) at; granted = g }))
        (λ f has_it. stage-fetched stage has row.seals g f (one-of (EntersSo (FetchedAt a stage row.seals)) row.entries (journal.Fetched f) own.1 has_it))

    pub own-turn : StageTold (WasDrawn past name link.number) (WasAsked past name) link.received link.taken link.sent stage
        → MonClientHas (events_of past) before_us logins told log name link.number link.sent stage → Means before_us d.own.mon_client.secret (Secret name)
        → Keeps_ (turns d (at_link link) (turn_of_kind (with_mon_client d.own) AsConnector (connector.turned_at a stage)))
    own-turn tells has secret =
        own-turned has (connector.turned_at a stage)
        (mon_client-turned run whole before_us behind_us logins told past p name log J r.mon_client link.number a refl refl refl (WasDrawn past name link.number) (WasAsked past name) stage tells has secret)
        (turn-own a stage)

  -- ---- fetches

  open-so : (link : Link DaemonStage) (s : Secured) (q : Requests) (stage : DaemonStage) → asking_open stage ≡ Some (s, q)
      → DaemonStageHas (events_of past) before_us logins told log name link.number link.sent stage
      → MonClientTold (events_of past) before_us told log name link.number (connector.Open s q)
  open-so link s q (AsConnector stage) is h =
      subst (λ (k : connector.Stage). MonClientHas (events_of past) before_us logins told log name link.number link.sent k) (kept-is stage s q is) h
  open-so link s q (AsAcceptor stage) is h = absurd cc

  request-node : (link : Link DaemonStage) (s : Secured) (q : Requests) (so : MonClientTold (events_of past) before_us told log name link.number (connector.Open s q))
      → Node_ (carried_out d link.number false (lifted (with_mon_client d.own) (asks_rotating open_to_ask (arrival (me d.own) d.own.mon_client link p.happening.reading p.happening.draw) s q)))
  request-node link s q so =
      let b_at : Arrival MonClient DaemonStage = arrival (me d.own) d.own.mon_client link p.happening.reading p.happening.draw in
      let row : Row MonClient DaemonStage = asks_rotating open_to_ask b_at s q in
      let b = rotating-behind run whole before_us behind_us logins told past p name log J r.mon_client link.number open_to_ask b_at refl refl s q so in
      let entries = (request-own NoFetch b_at open_to_ask s q (want.Rotating p.happening.reading) (sealed_request s.keys q asked.Rotating)).1 in
      record {
        next = b.next;
        moved = b.moved;
        apart = λ m other l challenge drew key is. b.apart m l (λ both. other (sym both.0)) challenge drew key is;
        quiet = b.quiet;
        known_of = b.known_of;
        handed = b.handed;
        links = behind-others
            (λ (l : Link DaemonStage). DaemonStageHas (events_of past) before_us logins told log name l.number l.sent l.stage)
            (λ (l : Link DaemonStage). DaemonStageHas (events_of (p ∷ past)) behind_us logins b.next (later row.seals) name l.number l.sent l.stage) link.number
            (λ l other h. link-stays run whole us vs logins told past p log J d r row.seals b.next b.moved l.number (λ challenge drew key is. b.apart name l.number (λ both. other (sym both.1)) challenge drew key is) l.sent l.stage h)
            d.links row.sends row.link (own b.next row.seals row.sends row.link b.link_has) r.links;
        fetched = λ f has. absurd (one-of (EntersSo NoFetch) row.entries (journal.Fetched f) entries has);
      }
    where
      own : (next : Told) (seals : List SealEntry) (sends : List ℕ) (left : Option (Link DaemonStage))
          → IfSome left (λ (l : Link DaemonStage). (l.number ≡ link.number) × ((u : Secured) × (w : Requests) × (l.stage ≡ open_to_ask u w)
          × MonClientTold (events_of (p ∷ past)) behind_us next (later seals) name link.number (connector.Open u w)))
          → IfSome left (λ (l : Link DaemonStage). (l.number ≡ link.number) × DaemonStageHas (events_of (p ∷ past)) behind_us logins next (later seals) name l.number (l.sent ++ sends) l.stage)
      own next seals sends None h = tt
      own next seals sends (Some l) (number, (u, w, stage, has)) = (
        number,
        subst (λ (st : DaemonStage). DaemonStageHas (events_of (p ∷ past)) behind_us logins next (later seals) name l.number (l.sent ++ sends) st) (sym stage)
            (subst (λ (k : ℕ). MonClientTold (events_of (p ∷ past)) behind_us next (later seals) name k (connector.Open u w)) (sym number) has),
      )

  pub asks-keeps : (link : Link DaemonStage) (s : Secured) (q : Requests) → first_open asking_open d.links ≡ Some (link, (s, q))
      → Keeps_ (fetches_on d p.happening.reading p.happening.draw (Some (link, (s, q))))
  asks-keeps link s q is = λ at g had.
      let o = found-open (λ (l : Link DaemonStage). DaemonStageHas (events_of past) before_us logins told log name l.number l.sent l.stage) asking_open d.links link s q is r.links in
      request-node link s q (open-so link s q link.stage o.1 o.0)
