-- A daemon keeps its name, whatever comes to it and whatever its book replies.
use Rattle.std.proofs.Common.{◌≡◌, ℕ, List, Result, Ok, Err, refl, ap}
use Rattle.cx_rules_session.specs.DaemonRule.{AsConnector, Daemon, DaemonNode, DaemonStage, DaemonState, book_after, book_reply, daemon_rule, daemon_step, hosts, me, open_to_ask, with_mon_client}
use Rattle.cx_rules_session.specs.Hosting.{Hosted}
use Rattle.cx_rules_session.specs.Kinds.{arrival_in, turn_of_kind}
use Rattle.cx_rules_session.specs.cx_desk.specs.Handlers.{Handlers}
use Rattle.cx_rules_session.specs.cx_journal.specs.declared.outcomes.Reason.{Reason}
use Rattle.cx_rules_session.specs.cx_rules.specs.Connector as connector
use Rattle.cx_rules_session.specs.cx_rules.specs.Holdings.{MonClient}
use Rattle.cx_rules_session.specs.cx_rules.specs.Inputs.{Input}
use Rattle.cx_rules_session.specs.cx_rules.specs.Links.{Link}
use Rattle.cx_rules_session.specs.cx_rules.specs.Requests.{Requests, sealed_request, sends_request}
use Rattle.cx_rules_session.specs.cx_rules.specs.Rows.{Arrival, Outcome, Row, Turned, Waits, Refuses, Handles, arrival, turns}
use Rattle.cx_rules_session.specs.cx_rules.specs.Secured.{SealedFrame, Secured}
use Rattle.cx_rules_session.specs.cx_rules.specs.declared.requests.Want.TheVariants.{Rotating}
use Rattle.cx_rules_session.specs.cx_rules.specs.declared.requests.Want.{Want}
use Rattle.cx_rules_session.specs.cx_wire.specs.declared.bodies.Request.TheVariants as asked
use Rattle.cx_run.proofs.Always.{always-book, always-weaker}
use Rattle.cx_run.proofs.ClientTakes.{mon_client-named}
use Rattle.cx_run.proofs.DaemonOutcomes.{ByRows, RestsAndTurns, came, incoming_rule, hosted-by-rows, rests-keep}
use Rattle.cx_run.proofs.IncomingTakes.{StaysIncoming, TakesHosted, incoming-takes}
use Rattle.cx_run.proofs.Taking.{EachRow}

-- a request that is sent, or can't be, leaves the name
request-named : (open_under : Secured → Requests → DaemonStage) (a : Arrival MonClient DaemonStage) (s : Secured) (requests : Requests) (want : Want)
    (sealed : Result SealedFrame Reason) → (sends_request open_under a s requests want sealed).own.name ≡ a.own.name
request-named open_under a s requests want (Ok sealed) = refl
request-named open_under a s requests want (Err why) = refl

module _ (handlers : Handlers) (d : DaemonNode) (reading : ℕ) (draw : List ℕ) where
  abbrev Named : Outcome DaemonNode → Type 0
  Named o = o.state.own.mon_client.name ≡ d.own.mon_client.name

  abbrev a : Link DaemonStage → Arrival Daemon DaemonStage
  a link = came handlers d reading draw link

  by-rows : ByRows handlers d reading draw Named (λ link stage. StaysIncoming (arrival_in (a link) d.own.mon_client stage))
  by-rows = record {
    idle = refl;
    moves = λ number session o h. h;
    broken = λ link why opened. refl;
    rows = λ link stage row h. ap (λ (mon_client : MonClient). mon_client.name) h.0;
  }

  own-named : (link : Link DaemonStage) (t : Turned MonClient connector.Stage) → EachRow (λ (row : Row MonClient connector.Stage). row.own.name ≡ d.own.mon_client.name) t
      → Named (turns d (a link) (turn_of_kind (with_mon_client d.own) AsConnector t))
  own-named link Waits k = refl
  own-named link (Refuses why opened) k = refl
  own-named link (Handles row) k = k

  each-named : (input : Input) → RestsAndTurns handlers d reading draw input Named
  each-named input = record {
    rests = λ o r own. r.name;
    shown = λ view is r. refl;
    restarts = λ r. refl;
    hosting = λ number link stage at is of.
        always-weaker (TakesHosted (arrival_in (a link) d.own.mon_client stage)) (λ (h : Hosted). Named (hosts d (a link) h))
        (λ h takes. hosted-by-rows handlers d reading draw Named _ by-rows link stage h takes.stays) (incoming_rule handlers d reading draw link stage)
        (incoming-takes handlers (arrival_in (a link) d.own.mon_client stage) stage);
    asking = λ number link stage at is of. own-named link _ (mon_client-named (arrival_in (a link) d.own.mon_client stage) stage);
    fetches_there = λ link s requests is. request-named open_to_ask (arrival (me d.own) d.own.mon_client link reading draw) s requests (Rotating reading)
        (sealed_request s.keys requests asked.Rotating);
  }

pub daemon-named : (handlers : Handlers) (d : DaemonState) (input : Input) (reading : ℕ) (draw : List ℕ)
    → (daemon_step handlers d input reading draw).state.node.own.mon_client.name ≡ d.node.own.mon_client.name
daemon-named handlers d input reading draw =
    always-book (Named handlers d.node reading draw) book_reply book_after d.book (daemon_rule handlers d.node input reading draw)
    (rests-keep handlers d.node reading draw input (Named handlers d.node reading draw) (each-named handlers d.node reading draw input))
