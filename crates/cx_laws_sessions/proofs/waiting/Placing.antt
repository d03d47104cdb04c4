-- Behind each step of a client, whatever comes to it, it has at most one link to each daemon, and each link is for its session.
use Rattle.std.proofs.Common.{◌≡◌, ◌==◌, ◌-◌, ◌^◌, ℕ, Bool, true, false, List, [], ◌∷◌, Option, Some, None, Result, Ok, Err, refl, sym, ◌∙◌, subst}
use Rattle.std.proofs.lemmas.Bool.{or_parts}
use Rattle.std.specs.List.{AllByRecursion, list_any}
use Rattle.std.specs.Prelude.{not, if◌then◌else◌}
use Rattle.cx_base.proofs.Names.{same_name_is}
use Rattle.cx_base.specs.Names.{Name, same_name}
use Rattle.cx_base.specs.declared.operations.Operation.{Operation}
use Rattle.cx_journal.specs.declared.faults.BytesFault.{BytesFault}
use Rattle.cx_journal.specs.declared.outcomes.Reason.TheVariants as reason
use Rattle.cx_laws_sessions.proofs.queues.Clients.{with-its}
use Rattle.cx_laws_sessions.proofs.queues.Sessions.{all-filter}
use Rattle.cx_laws_sessions.proofs.session.Lists.{all-append, all-map}
use Rattle.cx_laws_sessions.specs.cx_rules.specs.Inputs.{Input, Opened, NoLink, Bytes, Turn, Gone, Look, Tick, Submit, Restart}
use Rattle.cx_laws_sessions.specs.cx_rules.specs.Links.{Link}
use Rattle.cx_laws_sessions.specs.cx_rules.specs.Rows.{arrival, carried_out, secure_sent}
use Rattle.cx_laws_sessions.specs.cx_rules.specs.Secured.{SealedFrame, Secured, secure_frame}
use Rattle.cx_laws_sessions.specs.cx_rules_session.specs.ClientRule.{ClientStage, ToMonitor, ToDaemon, Dial, ForLogin, ForCall, WholeClientNode, call_open, call_or, calls, calls_with, connects, first_call, having_session, is_for, is_to, logs_in, me, refuses_command, sent_entry, whole_client_rule}
use Rattle.cx_laws_sessions.specs.cx_rules_session.specs.Kinds.{entered_before}
use Rattle.cx_laws_sessions.specs.cx_rules_session.specs.Presenter as call
use Rattle.cx_laws_sessions.specs.cx_rules_session.specs.Presenter.{CallStage, Caller, callee_of}
use Rattle.cx_laws_sessions.specs.cx_rules_session.specs.Sessions.{Called, Callee, HeldSession, held_gid, operation_message, put_session, session_with, ticket_for}
use Rattle.cx_laws_sessions.specs.cx_run.proofs.Outcomes.{EachOutcome, sent_in, step-keeps}
use Rattle.cx_laws_sessions.specs.cx_run.specs.Calling.{IsNoCall}
use Rattle.cx_laws_sessions.proofs.waiting.Finding.{other-found, own-found}
use Rattle.cx_laws_sessions.proofs.waiting.Places.{Awaited, DialAt, IsPlaced, Placed, LinkAt, Nowhere, Place, Places, StageAt, all-kept, all-put, all-without, at_with, link-else, place-other, place-own}
use Rattle.cx_laws_sessions.proofs.waiting.Going.{IsInOrder}
use Rattle.cx_laws_sessions.specs.waiting.Linked.{IsFor}
use Rattle.cx_run.specs.cx_login.specs.Held.{Held as Ticket}
use Rattle.cx_session.specs.Queue.{Queue, pushed}
use Rattle.cx_steps.specs.declared.events.Command.TheVariants as command
use Rattle.cx_laws_sessions.proofs.waiting.Linking.{asks-placed, begins-placed, found-on, goes-placed, presents-placed, put-on, renews-placed}

-- ---- sessions

-- a session with other operations is as good for a link
with-queue : (s : HeldSession) (q : Queue) (stage : CallStage) → IsFor (Some s) stage → IsFor (Some (record s { queue = q })) stage
with-queue s q (call.AwaitsBanner called) h = tt
with-queue s q (call.AwaitsHello called) h = tt
with-queue s q (call.AwaitsChallenge callee p) h = tt
with-queue s q (call.AwaitsDone callee answered) h = tt
with-queue s q (call.AwaitsSignature t callee) h = tt
with-queue s q (call.AwaitsIdent t callee cookie) h = absurd cc
with-queue s q (call.AwaitsReconnect t callee cookie) h = h
with-queue s q (call.Open t callee cookie) h = h

-- an open link is found among the links
abbrev OpenThere : (Link ClientStage → Type 0) → Option (Link ClientStage × (Secured × (Callee × ℕ))) → Type 0
OpenThere P None = Unit {0}
OpenThere P (Some (link, (s, (callee, cookie)))) = P link × (link.stage ≡ ToDaemon (call.Open s callee cookie))

open-there : (P : Link ClientStage → Type 0) (daemon : Name) (links : List (Link ClientStage)) → AllByRecursion P links → OpenThere P (first_call daemon links)
open-there P daemon [] h = tt
open-there P daemon (link ∷ links) h = by_stage link.stage refl (open-there P daemon links h.1)
  where
    by_stage : (stage : ClientStage) → link.stage ≡ stage → OpenThere P (first_call daemon links) → OpenThere P (call_or link (call_open daemon stage) (first_call daemon links))
    by_stage (ToMonitor stage) is rest = rest
    by_stage (ToDaemon (call.AwaitsBanner called)) is rest = rest
    by_stage (ToDaemon (call.AwaitsHello called)) is rest = rest
    by_stage (ToDaemon (call.AwaitsChallenge callee p)) is rest = rest
    by_stage (ToDaemon (call.AwaitsDone callee answered)) is rest = rest
    by_stage (ToDaemon (call.AwaitsSignature t callee)) is rest = rest
    by_stage (ToDaemon (call.AwaitsIdent t callee cookie)) is rest = rest
    by_stage (ToDaemon (call.AwaitsReconnect t callee cookie)) is rest = rest
    by_stage (ToDaemon (call.Open s callee cookie)) is rest = by_test (same_name callee.daemon daemon)
      where
        by_test : (t : Bool) → OpenThere P (call_or link (if t then Some (s, (callee, cookie)) else None) (first_call daemon links))
        by_test true = (h.0, is)
        by_test false = rest

-- ---- steps

module _ (c : WholeClientNode) (runs : AllByRecursion IsInOrder c.own.sessions) (at : Name → Place) (p : Places c.links c.own.dials c.own.sessions at) where
  module _ (reading : ℕ) (draw : List ℕ) where
    -- ---- an operation is sent

    module _ (to : Name) (session : HeldSession) (operation : Operation) (there : session_with to c.own.sessions ≡ Some session) where
      abbrev new : HeldSession
      new = record session { queue = pushed session.queue operation }

      abbrev sessions : List HeldSession
      sessions = put_session new c.own.sessions

      its : session_with session.daemon c.own.sessions ≡ Some session
      its = with-its c.own.sessions to session there

      pushed-for : (stage : CallStage) (other : Name) → IsFor (session_with other c.own.sessions) stage → IsFor (session_with other sessions) stage
      pushed-for stage other h = by_test (same_name session.daemon other) refl
        where
          by_test : (t : Bool) → same_name session.daemon other ≡ t → IsFor (session_with other sessions) stage
          by_test true is =
              let same : session.daemon ≡ other = same_name_is session.daemon other is in
              subst (λ (o : Option HeldSession). IsFor o stage) (sym (own-found other (Some new) c.own.sessions same))
              (with-queue session (pushed session.queue operation) stage
              (subst (λ (o : Option HeldSession). IsFor o stage) (subst (λ (n : Name). session_with n c.own.sessions ≡ Some session) same its) h))
          by_test false off = subst (λ (o : Option HeldSession). IsFor o stage) (sym (other-found session.daemon other off (Some new) c.own.sessions refl)) h

      pushed-on : (number : ℕ) (stage : ClientStage) → StageAt at c.own.sessions number stage → StageAt at sessions number stage
      pushed-on number (ToMonitor stage) h = tt
      pushed-on number (ToDaemon stage) h = (h.0, pushed-for stage (callee_of stage).daemon h.1)

      later-placed : (seq : ℕ) → Placed (sent_in c reading draw session operation seq None)
      later-placed seq = (at, record { on = all-map (LinkAt at c.own.sessions) (LinkAt at sessions) (λ l h. pushed-on l.number l.stage h) c.links p.on; waits = p.waits })

      there-placed : (seq : ℕ) (link : Link ClientStage) (s : Secured) (callee : Callee) (cookie : ℕ) → first_call session.daemon c.links ≡ Some (link, (s, (callee, cookie)))
          → Placed (sent_in c reading draw session operation seq (Some (link, (s, (callee, cookie)))))
      there-placed seq link s callee cookie is = by_sent (secure_frame s.keys (operation_message (seq, operation)))
        where
          open_one : OpenThere (LinkAt at c.own.sessions) (Some (link, (s, (callee, cookie))))
          open_one = subst (OpenThere (LinkAt at c.own.sessions)) is (open-there (LinkAt at c.own.sessions) session.daemon c.links p.on)

          here : StageAt at sessions link.number (ToDaemon (call.Open s callee cookie))
          here = pushed-on link.number (ToDaemon (call.Open s callee cookie)) (subst (StageAt at c.own.sessions link.number) open_one.1 open_one.0)

          by_sent : (made : Result SealedFrame BytesFault)
              → IsPlaced (carried_out (having_session c new) link.number false (entered_before (sent_entry c.own session seq operation)
              (secure_sent (arrival (me (having_session c new).own) (having_session c new).own link reading draw) s (λ behind. ToDaemon (call.Open behind callee cookie)) [] made))).state
          by_sent (Ok sealed) =
              (at, record { on = all-put (LinkAt at c.own.sessions) (LinkAt at sessions) _ (here.0, here.1) (λ l apart h. pushed-on l.number l.stage h) c.links p.on; waits = p.waits })
          by_sent (Err why) =
              (at, record { on = all-without (LinkAt at c.own.sessions) (LinkAt at sessions) link.number (λ l apart h. pushed-on l.number l.stage h) c.links p.on; waits = p.waits })

    -- ---- commands

    logs-placed : (services : ℕ) → Placed (logs_in c services)
    logs-placed services = (
      at,
      record {
        on = all-filter (LinkAt at c.own.sessions) _ c.links p.on;
        waits = all-append (DialAt at) _ (ForLogin services ∷ []) (all-filter (DialAt at) _ c.own.dials p.waits) (tt, tt);
      },
    )

    calls-placed : (called : Called) → list_any (λ (l : Link ClientStage). is_to called.callee.daemon l.stage) c.links ≡ false → Placed (calls c called)
    calls-placed called free = (
      at_with at called.callee.daemon Awaited,
      record {
        on = each-other c.links free p.on;
        waits = all-append (DialAt (at_with at called.callee.daemon Awaited)) _ (ForCall called ∷ [])
            (all-kept (DialAt at) (DialAt (at_with at called.callee.daemon Awaited)) (λ (d : Dial). not (is_for called.callee.daemon d)) other-dial c.own.dials p.waits)
            (place-own at called.callee.daemon Awaited, tt);
      },
    )
      where
        each-other : (links : List (Link ClientStage)) → list_any (λ (l : Link ClientStage). is_to called.callee.daemon l.stage) links ≡ false → AllByRecursion (LinkAt at c.own.sessions) links
            → AllByRecursion (LinkAt (at_with at called.callee.daemon Awaited) c.own.sessions) links
        each-other [] free h = tt
        each-other (l ∷ links) free h =
            let both = or_parts (is_to called.callee.daemon l.stage) (list_any (λ (m : Link ClientStage). is_to called.callee.daemon m.stage) links) free in (
              link-else at (at_with at called.callee.daemon Awaited) c.own.sessions c.own.sessions called.callee.daemon
                  (λ other off. sym (place-other at called.callee.daemon other Awaited off)) (λ other off. refl) l.number l.stage both.0 h.0,
              each-other links both.1 h.1,
            )

        other-dial : (d : Dial) → not (is_for called.callee.daemon d) ≡ true → DialAt at d → DialAt (at_with at called.callee.daemon Awaited) d
        other-dial (ForLogin services) off h = tt
        other-dial (ForCall other) off h = place-other at called.callee.daemon other.callee.daemon Awaited (by_test (same_name other.callee.daemon called.callee.daemon) off) ∙ h
          where
            by_test : (t : Bool) → not t ≡ true → t ≡ false
            by_test true off = absurd cc
            by_test false off = refl

    connects-placed : (daemon : Name) (lossy : Bool) → Placed (connects c daemon lossy)
    connects-placed daemon lossy = by_busy (list_any (λ (l : Link ClientStage). is_to daemon l.stage) c.links) refl
      where
        by_count : (held : Ticket) (spent : Bool) → list_any (λ (l : Link ClientStage). is_to daemon l.stage) c.links ≡ false
            → Placed (if spent then refuses_command c reason.Spent else calls c (record { callee = record { daemon = daemon; lossy = lossy }; held = held; gid = held_gid c.own.mon_client.holdings }))
        by_count held true free = (at, p)
        by_count held false free = calls-placed (record { callee = record { daemon = daemon; lossy = lossy }; held = held; gid = held_gid c.own.mon_client.holdings }) free

        by_ticket : (found : Option Ticket) → list_any (λ (l : Link ClientStage). is_to daemon l.stage) c.links ≡ false → Placed (calls_with c (record { daemon = daemon; lossy = lossy }) found)
        by_ticket None free = (at, p)
        by_ticket (Some held) free = by_count held (c.own.mon_client.global_seq == 2 ^ 64 - 1) free

        by_busy : (busy : Bool) → list_any (λ (l : Link ClientStage). is_to daemon l.stage) c.links ≡ busy
            → Placed (if busy then refuses_command c reason.Busy else calls_with c (record { daemon = daemon; lossy = lossy }) (ticket_for daemon.kind c.own.mon_client.holdings))
        by_busy true is = (at, p)
        by_busy false is = by_ticket (ticket_for daemon.kind c.own.mon_client.holdings) is

    -- ---- a step

    each-placed : (input : Input) → IsNoCall input → EachOutcome c reading draw input Placed
    each-placed input none = record {
      idle = (at, p);
      comes = λ number link bytes is. (at, record { on = put-on c runs at p _ (found-on c runs at p number link is); waits = p.waits });
      asks = λ number link stage is of. asks-placed c runs at p reading draw link stage;
      presents = λ number link stage is of. presents-placed c runs at p reading draw number link stage is of;
      refuses = λ why told. (at, p);
      begins = λ number to dial is. begins-placed c runs at p reading draw number to dial is;
      reaches_none = λ to. (at, record { on = p.on; waits = all-filter (DialAt at) _ c.own.dials p.waits });
      goes = λ number link is. goes-placed c runs at p reading draw number link is;
      logs = logs-placed;
      renews_there = λ services link s requests is. renews-placed c runs at p reading draw services link s requests;
      dials = λ daemon lossy held is of. absurd (subst IsNoCall is none);
      sends_later = λ daemon session operation seq of. later-placed daemon session operation of seq;
      sends_there = λ daemon session operation seq link s callee cookie of is. there-placed daemon session operation of seq link s callee cookie is;
      restarts = ((λ daemon. Nowhere), record { on = tt; waits = tt });
    }

    by-rule : (input : Input) → IsNoCall input → Placed (whole_client_rule c input reading draw)
    by-rule input none = step-keeps c reading draw Placed input (each-placed input none)

    pub client-placed : (input : Input) → Placed (whole_client_rule c input reading draw)
    client-placed (Submit (command.Connect daemon lossy)) = connects-placed daemon lossy
    client-placed (Submit (command.Login services)) = by-rule (Submit (command.Login services)) tt
    client-placed (Submit (command.Renew services)) = by-rule (Submit (command.Renew services)) tt
    client-placed (Submit (command.Send to operation)) = by-rule (Submit (command.Send to operation)) tt
    client-placed (Submit command.Fetch) = by-rule (Submit command.Fetch) tt
    client-placed (Submit (command.Drop session)) = by-rule (Submit (command.Drop session)) tt
    client-placed (Opened number to) = by-rule (Opened number to) tt
    client-placed (NoLink to) = by-rule (NoLink to) tt
    client-placed (Bytes number bytes) = by-rule (Bytes number bytes) tt
    client-placed (Turn number) = by-rule (Turn number) tt
    client-placed (Gone number) = by-rule (Gone number) tt
    client-placed (Look view) = by-rule (Look view) tt
    client-placed Tick = by-rule Tick tt
    client-placed Restart = by-rule Restart tt
