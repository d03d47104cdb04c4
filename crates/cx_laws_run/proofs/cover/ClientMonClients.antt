-- A client's step on a link to the monitor: a turn of it, or tickets that are asked for.
use Rattle.std.proofs.Common.{◌≡◌, ◌==◌, ℕ, true, false, List, ◌∷◌, ◌++◌, Option, Some, None, Result, Ok, Err, refl, sym, ap, subst}
use Rattle.std.specs.Option.{option_map}
use Rattle.std.specs.Prelude.{IfSome}
use Rattle.std.specs.List.{AllByRecursion}
use Rattle.cx_base.specs.Names.{Name, is_daemon_type}
use Rattle.cx_base.specs.declared.nodes.NodeName.{NodeName}
use Rattle.cx_base.specs.declared.nodes.NodeName.TheVariants as node
use Rattle.cx_journal.specs.declared.entries.Entry.{Entry}
use Rattle.cx_journal.specs.declared.outcomes.Reason.{Reason}
use Rattle.cx_laws_run.specs.cx_laws_tickets.proofs.calling.Between.{ClientOk}
use Rattle.cx_laws_run.proofs.cover.MonClientAsks.{HasOpen, tickets-behind}
use Rattle.cx_laws_run.proofs.cover.MonClientBehind.{MonClientReady}
use Rattle.cx_laws_run.proofs.cover.MonClientFirst.{TurnBehind}
use Rattle.cx_laws_run.proofs.cover.MonClientTurned.{mon_client-turned}
use Rattle.cx_laws_run.proofs.cover.ClientAsks.{ClientStageAsks, IsNoFetch, request-asks}
use Rattle.cx_laws_run.proofs.cover.TicketRows.{RowAsks, turned-asks}
use Rattle.cx_laws_run.proofs.cover.ClientLinks.{ClientMoved, LinkBefore, LinkBehind, row-moves}
use Rattle.cx_laws_run.proofs.cover.State.{MonClientHas, ClientStageHas}
use Rattle.cx_laws_run.specs.cx_laws_tickets.proofs.fetch.AllTold.{WasAsked, WasDrawn}
use Rattle.cx_laws_run.specs.cx_laws_tickets.proofs.fetch.AskedKnown.{MonClientTold, Told}
use Rattle.cx_laws_run.specs.cx_laws_tickets.proofs.fetch.MonClientFacts.{StageTold, found-open, kept-is}
use Rattle.cx_laws_run.specs.cx_laws_tickets.proofs.fetch.ClientTells.{ClientLinkTold, ClientStageTold}
use Rattle.cx_laws_run.specs.cx_laws_tickets.proofs.fetch.PointEvents.{events_of}
use Rattle.cx_laws_run.specs.cx_laws_tickets.proofs.fetch.Retied.{Handed, means-retied, retied}
use Rattle.cx_laws_run.specs.cx_laws_keys.proofs.keys.Known.{Inv}
use Rattle.cx_laws_run.specs.cx_laws_keys.proofs.keys.Lists.{found_all}
use Rattle.cx_laws_run.specs.cx_laws_keys.proofs.keys.Premises.{AreGranted, behind}
use Rattle.cx_laws_run.specs.cx_laws_keys.proofs.keys.Uses.{Means, Secret, Uses, WholeRun}
use Rattle.cx_laws_run.specs.cx_laws_keys.proofs.login.MonClientRows.{NeverExcepted}
use Rattle.cx_laws_run.specs.cx_rules.specs.Connector as connector
use Rattle.cx_laws_run.specs.cx_rules.specs.Connector.{MonClientArrival, MonClientRow}
use Rattle.cx_laws_run.specs.cx_rules.specs.Holdings.{MonClient}
use Rattle.cx_laws_run.specs.cx_rules.specs.Links.{Link, link_of}
use Rattle.cx_laws_run.specs.cx_rules.specs.Requests.{Requests, asks_tickets, behind_request, first_open, sealed_request, sends_request}
use Rattle.cx_laws_run.specs.cx_rules.specs.Rows.{Outcome, Row, Turned, Waits, Refuses, Handles, arrival, carried_out, idles, refuses_bytes, turns}
use Rattle.cx_laws_run.specs.cx_rules.specs.Secured.{SealedFrame, Secured, under}
use Rattle.cx_laws_run.specs.cx_rules_session.specs.ClientRule.{ClientStage, ToDaemon, ToMonitor, WholeClientNode, asking_open, me, open_to_ask, with_mon_client}
use Rattle.cx_laws_run.specs.cx_rules_session.specs.Kinds.{arrival_in, of_kind, row_of_kind, turn_of_kind}
use Rattle.cx_steps.specs.declared.effects.Effects.{Effects}
use Rattle.cx_steps.specs.declared.seals.Logged.{Logged}
use Rattle.cx_steps.specs.declared.seals.SealEntry.{SealEntry}
use Rattle.cx_laws_run.specs.cx_rules.specs.declared.requests.Want.TheVariants.{Tickets}
use Rattle.cx_laws_run.specs.cx_wire.specs.declared.bodies.Request.TheVariants as asked
use Rattle.cx_laws_run.specs.cx_run.proofs.Outcomes.{mon_client_turn, on_link, renewed}
use Rattle.cx_laws_run.specs.cx_run.proofs.Taking.{EachRow}
use Rattle.cx_laws_run.specs.cx_run.specs.Points.{Point, stepped_at}
use Rattle.cx_laws_run.proofs.cover.ClientRests as rests

module _ (run : WholeRun) (whole : List Logged) (us vs : Uses) (logins : List Handed) (told : Told) (past : List Point) (p : Point) (log : List Logged) (J : List Entry) (c : WholeClientNode)
    (r : MonClientReady run whole (retied logins us) vs logins told past p c.own.mon_client.name log J) (inv : Inv run whole us log J) (free : NeverExcepted run whole (node.Entity c.own.mon_client.name) us c.own.mon_client.name)
    (ok : ClientOk run us c) (client : is_daemon_type c.own.mon_client.name.kind ≡ false)
    (tells : AllByRecursion (ClientLinkTold (WasDrawn past c.own.mon_client.name) (WasAsked past c.own.mon_client.name)) c.links)
    (before : AllByRecursion (LinkBefore run whole (retied logins us) vs logins told past p log J c.own.mon_client.name r) c.links) where
  abbrev name : Name
  name = c.own.mon_client.name

  abbrev n : NodeName
  n = node.Entity name

  abbrev line : ℕ
  line = p.happening.line

  abbrev ws : Uses
  ws = retied logins us

  abbrev reading : ℕ
  reading = p.happening.reading

  abbrev draw : List ℕ
  draw = p.happening.draw

  abbrev Granted : List SealEntry → Type 0
  Granted es = AreGranted run.leaked whole n line log es

  abbrev Moved_ : Outcome WholeClientNode → Type 0
  Moved_ o = ClientMoved run whole ws vs logins told past p log J name r o

  -- where the step comes to this outcome, and what it logs is granted
  abbrev pub Moves : Outcome WholeClientNode → Type 0
  Moves o = (stepped_at p).out ≡ o.out → Granted o.out.seals → Moved_ o

  abbrev Before : Link ClientStage → Type 0
  Before l = LinkBefore run whole ws vs logins told past p log J name r l

  -- ---- a turn of a link to the monitor

  own-secret : Means ws c.own.mon_client.secret (Secret name)
  own-secret = means-retied logins us c.own.mon_client.secret (Secret name) ok.known.own

  module _ (number : ℕ) (link : Link ClientStage) (stage : connector.Stage) (is : link_of number c.links ≡ Some link) (of : link.stage ≡ ToMonitor stage) where
    abbrev a : MonClientArrival
    a = arrival_in (on_link c reading draw link) c.own.mon_client stage

    has : MonClientHas (events_of past) ws logins told log name link.number link.sent stage × ClientStageAsks (ToMonitor stage)
    has = subst (λ (s : ClientStage). ClientStageHas (events_of past) ws logins told log name link.number link.received link.taken link.sent s × ClientStageAsks s) of
        (found_all Before (λ (l : Link ClientStage). l.number == number) c.links link before is)

    tells-so : StageTold (WasDrawn past name link.number) (WasAsked past name) link.received link.taken link.sent stage
    tells-so = subst (λ (s : ClientStage). ClientStageTold (WasDrawn past name) (WasAsked past name) link.number link.received link.taken link.sent s) of
        (found_all (ClientLinkTold (WasDrawn past name) (WasAsked past name)) (λ (l : Link ClientStage). l.number == number) c.links link tells is)

    abbrev H : Told → List Logged → List ℕ → connector.Stage → Type 0
    H next later sent s = MonClientHas (events_of (p ∷ past)) vs logins next later name link.number sent s

    -- the link that a row leaves
    left-is : (next : Told) (later : List Logged) (bytes : List ℕ) (left : Option (Link connector.Stage))
        → IfSome left (λ (l : Link connector.Stage). (l.number ≡ link.number) × H next later (l.sent ++ bytes) l.stage) → IfSome left (λ (l : Link connector.Stage). ClientStageAsks (ToMonitor l.stage))
        → IfSome (option_map (of_kind ToMonitor) left) (λ (l : Link ClientStage). (l.number ≡ link.number)
        × LinkBehind run whole ws vs logins told past p log J name r next later (record l { sent = l.sent ++ bytes }))
    left-is next later bytes None h asks = tt
    left-is next later bytes (Some l) h asks =
        (h.0, (subst (λ (m : ℕ). MonClientHas (events_of (p ∷ past)) vs logins next later name m (l.sent ++ bytes) l.stage) (sym h.0) h.1, asks))

    turn-moves : (t : Turned MonClient connector.Stage) → TurnBehind run whole ws vs logins told past p name log J r link.number a t → EachRow RowAsks t
        → Moves (turns c (on_link c reading draw link) (turn_of_kind (with_mon_client c.own) ToMonitor t))
    turn-moves Waits h asks = λ at g. rests.still run whole us vs logins told past p log J c r before (idles c) tt refl tt
    turn-moves (Refuses why opened) h asks = λ at g.
        let row : MonClientRow = refuses_bytes a why opened in
        let o : Outcome WholeClientNode = carried_out c link.number false (refuses_bytes (on_link c reading draw link) why opened) in
        let b = h (record { seals_are = ap (λ (e : Effects). e.seals) at; sends_are = ap (λ (e : Effects). e.sends) at; granted = g }) in
        row-moves run whole ws vs logins told past p log J name r H link.number row b o refl c.links before None tt refl (tt, tt)
    turn-moves (Handles row) h asks = λ at g.
        let o : Outcome WholeClientNode = carried_out c link.number true (row_of_kind (with_mon_client c.own) ToMonitor row) in
        let b = h (record { seals_are = ap (λ (e : Effects). e.seals) at; sends_are = ap (λ (e : Effects). e.sends) at; granted = g }) in
        row-moves run whole ws vs logins told past p log J name r H link.number row b o refl c.links before (option_map (of_kind ToMonitor) row.link)
        (left-is b.next (behind n line row.seals log) row.sends row.link b.link_has asks.link) refl asks.entries

    pub asks-moves : Moves (mon_client_turn c reading draw link stage)
    asks-moves =
        turn-moves (connector.turned_at a stage)
        (mon_client-turned run whole ws vs logins told past p name log J r link.number a refl refl refl (WasDrawn past name link.number) (WasAsked past name) stage tells-so has.0 own-secret)
        (turned-asks a client stage has.1)

  -- tickets that are asked for
  pub renews-moves : (services : ℕ) (link : Link ClientStage) (s : Secured) (q : Requests) → first_open asking_open c.links ≡ Some (link, (s, q)) → Moves (renewed c reading draw services link s q)
  renews-moves services link s q is = λ at g.
      let found = found-open Before asking_open c.links link s q is before in
      let open_is : MonClientTold (events_of past) ws told log name link.number (connector.Open s q) × ClientStageAsks (ToMonitor (connector.Open s q)) = open-so link.stage found.1 found.0 in
      let row : Row MonClient ClientStage = asks_tickets open_to_ask (arrival (me c.own) c.own.mon_client link reading draw) s q services in
      let o : Outcome WholeClientNode = renewed c reading draw services link s q in
      let b = tickets-behind run whole ws vs logins told past p name log J r link.number open_to_ask (arrival (me c.own) c.own.mon_client link reading draw) refl refl s q open_is.0 services in
      row-moves run whole ws vs logins told past p log J name r (HasOpen vs (p ∷ past) name link.number open_to_ask)
      link.number row b o refl c.links before row.link
      (by_made (sealed_request s.keys q (asked.Tickets services)) b.next (behind n line row.seals log) open_is.1 b.link_has) refl (no-fetch (sealed_request s.keys q (asked.Tickets services)))
    where
      open-so : (stage : ClientStage) → asking_open stage ≡ Some (s, q)
          → ClientStageHas (events_of past) ws logins told log name link.number link.received link.taken link.sent stage × ClientStageAsks stage
          → MonClientTold (events_of past) ws told log name link.number (connector.Open s q) × ClientStageAsks (ToMonitor (connector.Open s q))
      open-so (ToMonitor stage) e h =
          subst (λ (k : connector.Stage). ClientStageHas (events_of past) ws logins told log name link.number link.received link.taken link.sent (ToMonitor k) × ClientStageAsks (ToMonitor k)) (kept-is stage s q e) h
      open-so (ToDaemon stage) e h = absurd cc

      row_of : Result SealedFrame Reason → Row MonClient ClientStage
      row_of made = sends_request open_to_ask (arrival (me c.own) c.own.mon_client link reading draw) s q Tickets made

      by_made : (made : Result SealedFrame Reason) (next : Told) (later : List Logged) → ClientStageAsks (ToMonitor (connector.Open s q))
          → IfSome (row_of made).link (λ (l : Link ClientStage). (l.number ≡ link.number) × HasOpen vs (p ∷ past) name link.number open_to_ask next later (l.sent ++ (row_of made).sends) l.stage)
          → IfSome (row_of made).link (λ (l : Link ClientStage). (l.number ≡ link.number)
          × LinkBehind run whole ws vs logins told past p log J name r next later (record l { sent = l.sent ++ (row_of made).sends }))
      by_made (Err why) next later asks h = tt
      by_made (Ok sealed) next later asks h = (refl, (abiding h.1.0 h.1.1 h.1.2 h.1.3, request-asks open_to_ask q asks))
        where
          abiding : (u : Secured) (w : Requests) → open_to_ask (under s sealed.keys) (behind_request q Tickets) ≡ open_to_ask u w
              → MonClientTold (events_of (p ∷ past)) vs next later name link.number (connector.Open u w)
              → MonClientTold (events_of (p ∷ past)) vs next later name link.number (connector.Open (under s sealed.keys) (behind_request q Tickets))
          abiding u w same k =
              let stages : connector.Open u w ≡ connector.Open (under s sealed.keys) (behind_request q Tickets) = cc in
              subst (λ (stage : connector.Stage). MonClientTold (events_of (p ∷ past)) vs next later name link.number stage) stages k

      no-fetch : (made : Result SealedFrame Reason) → AllByRecursion IsNoFetch (row_of made).entries
      no-fetch (Ok sealed) = tt
      no-fetch (Err why) = (tt, tt)
