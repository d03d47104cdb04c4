-- What a client's turns, and links that open and go, make of its links: it has at most one to each daemon, and each is for its session.
use Rattle.std.proofs.Common.{◌≡◌, ◌==◌, ℕ, Bool, true, false, List, ◌++◌, filter, find, Option, Some, None, Result, Ok, Err, refl, sym, ap, ◌∙◌, subst}
use Rattle.std.specs.List.{AllByRecursion}
use Rattle.std.specs.Option.{option_map}
use Rattle.std.specs.Prelude.{◌&&◌, not}
use Rattle.cx_base.proofs.Names.{same_name_is}
use Rattle.cx_base.specs.Names.{Name, same_name}
use Rattle.cx_journal.specs.declared.outcomes.Reason.{Reason}
use Rattle.cx_laws_sessions.proofs.queues.Calls.{Held}
use Rattle.cx_laws_sessions.proofs.queues.Sessions.{all-filter, held-all}
use Rattle.cx_laws_sessions.proofs.session.Lists.{found-all, found-passes}
use Rattle.cx_laws_sessions.specs.cx_rules.specs.Connector as connector
use Rattle.cx_laws_sessions.specs.cx_rules.specs.Holdings.{MonClient}
use Rattle.cx_laws_sessions.specs.cx_rules.specs.Links.{Link, link_of, put_link, without_link}
use Rattle.cx_laws_sessions.specs.cx_rules.specs.Requests.{Requests, sealed_request, sends_request}
use Rattle.cx_laws_sessions.specs.cx_rules.specs.Rows.{Turned, Waits, Refuses, Handles, arrival, carried_out, lifted, links_behind, turns}
use Rattle.cx_laws_sessions.specs.cx_rules.specs.Secured.{SealedFrame, Secured}
use Rattle.cx_laws_sessions.specs.cx_rules.specs.declared.requests.Want.TheVariants.{Tickets}
use Rattle.cx_laws_sessions.specs.cx_rules_session.specs.ClientRule.{ClientStage, ToMonitor, ToDaemon, Dial, ForLogin, ForCall, WholeClientNode, caller_to, dial_of, is_to, loses, me, open_to_ask, opens_dialled, own_behind_gone, with_mon_client, with_caller}
use Rattle.cx_laws_sessions.specs.cx_rules_session.specs.Kinds.{arrival_in, of_kind, turn_of_kind}
use Rattle.cx_laws_sessions.specs.cx_rules_session.specs.Presenter as call
use Rattle.cx_laws_sessions.specs.cx_rules_session.specs.Presenter.{CallStage, Caller, callee_of}
use Rattle.cx_laws_sessions.specs.cx_rules_session.specs.Sessions.{Callee, HeldSession, session_with, with_session}
use Rattle.cx_laws_sessions.specs.cx_run.proofs.CallKeeps.{call-takes}
use Rattle.cx_laws_sessions.specs.cx_run.proofs.Outcomes.{mon_client_turn, call_turn, on_link, renewed}
use Rattle.cx_laws_sessions.specs.cx_run.proofs.Taking.{EachRow, TurnTakes}
use Rattle.cx_laws_sessions.proofs.waiting.Finding.{other-found, others-found, own-found, stays_without}
use Rattle.cx_laws_sessions.proofs.waiting.Places.{Awaited, DialAt, IsPlaced, Placed, LinkAt, OnLink, Place, Places, StageAt, all-kept, all-put, all-without, at_with, elsewhere, link-else, not-awaited, on-one, place-other, place-own}
use Rattle.cx_laws_sessions.proofs.waiting.Quiet.{GoesFor}
use Rattle.cx_laws_sessions.proofs.waiting.Going.{IsInOrder}
use Rattle.cx_laws_sessions.proofs.waiting.Turned.{IsWith, call-with, held-with}
use Rattle.cx_laws_sessions.proofs.waiting.Turning.{TurnIs, turn-is}
use Rattle.cx_laws_sessions.specs.waiting.Heard.{heard_on}
use Rattle.cx_laws_sessions.specs.waiting.Linked.{IsFor}
use Rattle.cx_steps.specs.declared.events.Peer.{Peer}
use Rattle.cx_steps.specs.declared.events.Peer.TheVariants as peer
use Rattle.cx_wire.specs.declared.bodies.Request.TheVariants as asked

module _ (c : WholeClientNode) (runs : AllByRecursion IsInOrder c.own.sessions) (at : Name → Place) (p : Places c.links c.own.dials c.own.sessions at) where
  -- where what is so of each link stays so of it
  abbrev Stays : Name → (Name → Place) → List HeldSession → Type 0
  Stays daemon later sessions = (link : Link ClientStage) → is_to daemon link.stage ≡ false → LinkAt at c.own.sessions link → LinkAt later sessions link

  -- the others are to other daemons than this one
  others : (daemon : Name) (number : ℕ) → at daemon ≡ OnLink number → (later : Name → Place) (sessions : List HeldSession) → Stays daemon later sessions
      → (l : Link ClientStage) → (l.number ≡ number → ⊥) → LinkAt at c.own.sessions l → LinkAt later sessions l
  others daemon number here later sessions stays l apart h =
      stays l (elsewhere at c.own.sessions daemon l.number l.stage (λ on. apart (on-one l.number number (sym on ∙ here))) h) h

  pub put-on : (new : Link ClientStage) → LinkAt at c.own.sessions new → AllByRecursion (LinkAt at c.own.sessions) (put_link new c.links)
  put-on new is = all-put (LinkAt at c.own.sessions) (LinkAt at c.own.sessions) new is (λ l apart h. h) c.links p.on

  without-on : (number : ℕ) → AllByRecursion (LinkAt at c.own.sessions) (without_link number c.links)
  without-on number = all-without (LinkAt at c.own.sessions) (LinkAt at c.own.sessions) number (λ l apart h. h) c.links p.on

  pub found-on : (number : ℕ) (link : Link ClientStage) → link_of number c.links ≡ Some link → LinkAt at c.own.sessions link
  found-on number link is = found-all (LinkAt at c.own.sessions) (λ (l : Link ClientStage). l.number == number) c.links link p.on is

  -- ---- links to the monitor

  asks-on : (link : Link ClientStage) (bytes : List ℕ) (left : Option (Link connector.Stage))
      → AllByRecursion (LinkAt at c.own.sessions) (links_behind c.links link.number bytes (option_map (of_kind ToMonitor) left))
  asks-on link bytes None = without-on link.number
  asks-on link bytes (Some l) = put-on (record (of_kind ToMonitor l) { sent = l.sent ++ bytes }) tt

  module _ (reading : ℕ) (draw : List ℕ) where
    pub asks-placed : (link : Link ClientStage) (stage : connector.Stage) → Placed (mon_client_turn c reading draw link stage)
    asks-placed link stage = by_turned (connector.turned_at (arrival_in (on_link c reading draw link) c.own.mon_client stage) stage)
      where
        by_turned : (t : Turned MonClient connector.Stage) → IsPlaced (turns c (on_link c reading draw link) (turn_of_kind (with_mon_client c.own) ToMonitor t)).state
        by_turned Waits = (at, p)
        by_turned (Refuses why opened) = (at, record { on = without-on link.number; waits = p.waits })
        by_turned (Handles row) = (at, record { on = asks-on link row.sends row.link; waits = p.waits })

    pub renews-placed : (services : ℕ) (link : Link ClientStage) (s : Secured) (requests : Requests) → Placed (renewed c reading draw services link s requests)
    renews-placed services link s requests = by_sealed (sealed_request s.keys requests (asked.Tickets services))
      where
        by_sealed : (r : Result SealedFrame Reason)
            → IsPlaced (carried_out c link.number false (lifted (with_mon_client c.own) (sends_request open_to_ask (arrival (me c.own) c.own.mon_client link reading draw) s requests Tickets r))).state
        by_sealed (Ok sealed) = (at, record { on = put-on _ tt; waits = p.waits })
        by_sealed (Err why) = (at, record { on = without-on link.number; waits = p.waits })

    -- ---- links to daemons

    module _ (number : ℕ) (link : Link ClientStage) (stage : CallStage) (found : link_of number c.links ≡ Some link) (of : link.stage ≡ ToDaemon stage) where
      abbrev daemon : Name
      daemon = (callee_of stage).daemon

      here : StageAt at c.own.sessions link.number (ToDaemon stage)
      here = subst (StageAt at c.own.sessions link.number) of (found-on number link found)

      abbrev a : call.CallArrival
      a = arrival_in (on_link c reading draw link) (caller_to daemon c.own) stage

      -- the link that goes on calls the same daemon, for the session that is held behind the row
      goes-on : (row : call.CallRow) (left : Option (Link CallStage)) → TurnTakes a.link (Handles (record row { link = left })) → session_with daemon (with_session daemon row.own.session c.own.sessions) ≡ row.own.session
          → GoesFor (callee_of stage) row.own.session left → AllByRecursion (LinkAt at (with_session daemon row.own.session c.own.sessions)) (without_link link.number c.links)
          → ((new : Link ClientStage) → new.number ≡ link.number → LinkAt at (with_session daemon row.own.session c.own.sessions) new
          → AllByRecursion (LinkAt at (with_session daemon row.own.session c.own.sessions)) (put_link new c.links))
          → AllByRecursion (LinkAt at (with_session daemon row.own.session c.own.sessions)) (links_behind c.links link.number row.sends (option_map (of_kind ToDaemon) left))
      goes-on row None takes own for rest put = rest
      goes-on row (Some l) takes own for rest put =
          let same : (callee_of l.stage).daemon ≡ daemon = ap (λ (k : Callee). k.daemon) for.0 in
          put (record (of_kind ToDaemon l) { sent = l.sent ++ row.sends }) takes.0 (
            ap at same ∙ here.0 ∙ ap OnLink (sym takes.0),
            subst (λ (n : Name). IsFor (session_with n (with_session daemon row.own.session c.own.sessions)) l.stage) (sym same)
                (subst (λ (o : Option HeldSession). IsFor o l.stage) (sym own) for.1),
          )

      pub presents-placed : Placed (call_turn c reading draw link stage)
      presents-placed =
          by_turned (call.turned_at a stage) (call-takes a stage).takes (call-with a stage daemon refl (held-with c.own.sessions daemon (session_with daemon c.own.sessions) refl))
          (turn-is a stage here.1 (held-all IsInOrder daemon c.own.sessions runs))
        where
          by_turned : (t : Turned Caller CallStage) → TurnTakes a.link t → EachRow (Held (IsWith daemon)) t → TurnIs (callee_of stage) (heard_on a.link a.own.session stage) a.own.session t
              → IsPlaced (turns c (on_link c reading draw link) (turn_of_kind (with_caller daemon c.own) ToDaemon t)).state
          by_turned Waits takes with is = (at, p)
          by_turned (Refuses why opened) takes with is = (at, record { on = without-on link.number; waits = p.waits })
          by_turned (Handles row) takes with is =
              let sessions : List HeldSession = with_session daemon row.own.session c.own.sessions in
              let stays : Stays daemon at sessions = λ l off h. link-else at at c.own.sessions sessions daemon (λ other apart. refl)
              (λ other apart. other-found daemon other apart row.own.session c.own.sessions with.0) l.number l.stage off h in (
                at,
                record {
                  on = goes-on row row.link takes (own-found daemon row.own.session c.own.sessions with.0) is.for
                      (all-without (LinkAt at c.own.sessions) (LinkAt at sessions) link.number (λ l apart h. others daemon link.number here.0 at sessions stays l apart h) c.links p.on)
                      (λ new same at_new. all-put (LinkAt at c.own.sessions) (LinkAt at sessions) new at_new
                      (λ l apart h. others daemon link.number here.0 at sessions stays l (λ e. apart (e ∙ sym same)) h) c.links p.on);
                  waits = p.waits;
                },
              )

    -- ---- links that open and go

    pub begins-placed : (number : ℕ) (to : Peer) (dial : Dial) → find (dial_of to) c.own.dials ≡ Some dial → Placed (opens_dialled c reading draw number to (Some dial))
    begins-placed number to (ForLogin services) is =
        (at, record { on = put-on _ tt; waits = all-filter (DialAt at) (λ (d : Dial). not (dial_of to d)) c.own.dials p.waits })
    begins-placed number to (ForCall called) is = by_peer to is (found-passes (dial_of to) c.own.dials (ForCall called) is)
      where
        waited : at called.callee.daemon ≡ Awaited
        waited = found-all (DialAt at) (dial_of to) c.own.dials (ForCall called) p.waits is

        later : Name → Place
        later = at_with at called.callee.daemon (OnLink number)

        by_peer : (to : Peer) → find (dial_of to) c.own.dials ≡ Some (ForCall called) → dial_of to (ForCall called) ≡ true → Placed (opens_dialled c reading draw number to (Some (ForCall called)))
        by_peer peer.Monitor is passes = absurd cc
        by_peer (peer.Daemon daemon) is passes =
            let same : called.callee.daemon ≡ daemon = same_name_is called.callee.daemon daemon passes in (
              at_with at called.callee.daemon (OnLink number),
              record {
                on = all-put (LinkAt at c.own.sessions) (LinkAt (at_with at called.callee.daemon (OnLink number)) c.own.sessions) _ (place-own at called.callee.daemon (OnLink number), tt)
                    (λ l apart h. link-else at (at_with at called.callee.daemon (OnLink number)) c.own.sessions c.own.sessions called.callee.daemon
                    (λ other off. sym (place-other at called.callee.daemon other (OnLink number) off)) (λ other off. refl) l.number l.stage
                    (elsewhere at c.own.sessions called.callee.daemon l.number l.stage (λ on. not-awaited l.number (sym on ∙ waited)) h) h) c.links p.on;
                waits = all-kept (DialAt at) (DialAt (at_with at called.callee.daemon (OnLink number))) (λ (d : Dial). not (dial_of (peer.Daemon daemon) d)) (other-dial same) c.own.dials p.waits;
              },
            )
          where
            other-dial : called.callee.daemon ≡ daemon → (d : Dial) → not (dial_of (peer.Daemon daemon) d) ≡ true → DialAt at d → DialAt (at_with at called.callee.daemon (OnLink number)) d
            other-dial same (ForLogin services) off h = tt
            other-dial same (ForCall other) off h = place-other at called.callee.daemon other.callee.daemon (OnLink number) (by_test (same_name other.callee.daemon daemon) refl off) ∙ h
              where
                by_test : (t : Bool) → same_name other.callee.daemon daemon ≡ t → not t ≡ true → same_name other.callee.daemon called.callee.daemon ≡ false
                by_test true is off = absurd cc
                by_test false is off = ap (λ (n : Name). same_name other.callee.daemon n) same ∙ is

    unlike : (lossy : Bool) → not (lossy && false) ≡ true
    unlike true = refl
    unlike false = refl

    pub goes-placed : (number : ℕ) (link : Link ClientStage) → link_of number c.links ≡ Some link → Placed (loses c (Some link))
    goes-placed number link found = by_stage link.stage (found-on number link found)
      where
        by_stage : (stage : ClientStage) → StageAt at c.own.sessions link.number stage
            → (later : Name → Place) × Places (without_link link.number c.links) (own_behind_gone c.own stage).dials (own_behind_gone c.own stage).sessions later
        by_stage (ToMonitor stage) h = (at, record { on = without-on link.number; waits = p.waits })
        by_stage (ToDaemon stage) h =
            let daemon : Name = (callee_of stage).daemon in
            let sessions : List HeldSession = filter (stays_without daemon) c.own.sessions in
            let stays : Stays daemon at sessions = λ l off g. link-else at at c.own.sessions sessions daemon (λ other apart. refl)
            (λ other apart. others-found daemon other apart (stays_without daemon) (λ s off. ap (λ (t : Bool). not (s.lossy && t)) off ∙ unlike s.lossy) c.own.sessions) l.number l.stage off g in (
              at,
              record {
                on = all-without (LinkAt at c.own.sessions) (LinkAt at sessions) link.number (λ l apart g. others daemon link.number h.0 at sessions stays l apart g) c.links p.on;
                waits = p.waits;
              },
            )
