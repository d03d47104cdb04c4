-- What a daemon handles has an address, at each step, whatever its book replies.
use Rattle.std.proofs.Common.{ℕ, List, Result, Ok, Err}
use Rattle.std.specs.List.{AllByRecursion}
use Rattle.cx_desk.specs.Handlers.{Handlers}
use Rattle.cx_journal.specs.declared.entries.Entry.{Entry}
use Rattle.cx_journal.specs.declared.entries.Entry.TheVariants as entry
use Rattle.cx_journal.specs.declared.outcomes.Reason.{Reason}
use Rattle.cx_laws_run.specs.cx_laws_keys.proofs.login.NoTickets.{IsOfMonClient, RowOfMonClient, none-turned}
use Rattle.cx_laws_run.specs.cx_laws_keys.proofs.login.Proving.{RowOf}
use Rattle.cx_laws_run.specs.cx_rules.specs.Connector as connector
use Rattle.cx_laws_run.specs.cx_rules.specs.Holdings.{MonClient}
use Rattle.cx_laws_run.specs.cx_rules.specs.Inputs.{Input}
use Rattle.cx_laws_run.specs.cx_rules.specs.Links.{Link}
use Rattle.cx_laws_run.specs.cx_rules.specs.Requests.{Requests, sealed_request, sends_request}
use Rattle.cx_laws_run.specs.cx_rules.specs.Rows.{Arrival, Outcome, Turned, Waits, Refuses, Handles, arrival, turns}
use Rattle.cx_laws_run.specs.cx_rules.specs.Secured.{SealedFrame, Secured}
use Rattle.cx_laws_run.specs.cx_rules.specs.declared.requests.Want.TheVariants.{Rotating}
use Rattle.cx_laws_run.specs.cx_rules.specs.declared.requests.Want.{Want}
use Rattle.cx_laws_run.specs.cx_rules_session.specs.DaemonRule.{AsConnector, daemon_step, open_to_ask, DaemonNode, DaemonStage, DaemonState, book_after, book_reply, daemon_rule, hosts, me, with_mon_client}
use Rattle.cx_laws_run.specs.cx_rules_session.specs.Hosting.{Hosted}
use Rattle.cx_laws_run.specs.cx_rules_session.specs.Kinds.{arrival_in, turn_of_kind}
use Rattle.cx_laws_run.specs.cx_run.proofs.Always.{always-book, always-weaker}
use Rattle.cx_laws_run.specs.cx_run.proofs.DaemonOutcomes.{ByRows, IsRest, RestEntry, RestsAndTurns, came, incoming_rule, hosted-by-rows, rests-keep}
use Rattle.cx_laws_run.specs.cx_run.proofs.Taking.{EachRow}
use Rattle.cx_laws_legal.proofs.entered.IncomingParts.{incoming-parts}
use Rattle.cx_laws_legal.proofs.entered.Shown.{HasParts, RowHasParts}
use Rattle.cx_laws_keys.proofs.keys.Lists.{all-map}
use Rattle.cx_wire.specs.declared.bodies.Request.TheVariants as asked

-- ---- its own link

-- one that asks enters no operation
mon_client-has : (e : Entry) → IsOfMonClient e → HasParts e
mon_client-has (entry.Sent x) h = absurd h
mon_client-has (entry.Handled x) h = absurd h
mon_client-has _ h = tt

-- a request that is sent, or can't be
request-parts : (open_under : Secured → Requests → DaemonStage) (a : Arrival MonClient DaemonStage) (s : Secured) (requests : Requests) (want : Want) (sealed : Result SealedFrame Reason)
    → RowHasParts (sends_request open_under a s requests want sealed)
request-parts open_under a s requests want (Ok sealed) = tt
request-parts open_under a s requests want (Err why) = (tt, tt)

-- nor does an outcome that is no turn
rest-has : (e : Entry) → RestEntry e → HasParts e
rest-has (entry.Sent x) h = absurd h
rest-has (entry.Handled x) h = absurd h
rest-has _ h = tt

-- ---- a daemon, whatever its book replies

module _ (handlers : Handlers) (d : DaemonNode) (reading : ℕ) (draw : List ℕ) where
  abbrev StepHasParts : Outcome DaemonNode → Type 0
  StepHasParts o = AllByRecursion HasParts o.out.entries

  by-rows : ByRows handlers d reading draw StepHasParts (λ link stage row. RowHasParts row)
  by-rows = record { idle = tt; moves = λ number session o h. h; broken = λ link why opened. (tt, tt); rows = λ link stage row h. h }

  own-parts : (link : Link DaemonStage) (t : Turned MonClient connector.Stage) → RowOf (RowOfMonClient d.own.mon_client) t
      → StepHasParts (turns d (came handlers d reading draw link) (turn_of_kind (with_mon_client d.own) AsConnector t))
  own-parts link Waits h = tt
  own-parts link (Refuses why opened) h = (tt, tt)
  own-parts link (Handles row) h = all-map IsOfMonClient HasParts mon_client-has row.entries h.enters

  rests-have : (o : Outcome DaemonNode) → IsRest d o → StepHasParts o
  rests-have o r = all-map RestEntry HasParts rest-has o.out.entries r.entries

  each-has : (input : Input) → RestsAndTurns handlers d reading draw input StepHasParts
  each-has input = record {
    rests = λ o r own. rests-have o r;
    shown = λ view is r. tt;
    restarts = λ r. (tt, tt);
    hosting = λ number link stage at is of.
        always-weaker (λ (h : Hosted). EachRow RowHasParts h.turned) (λ (h : Hosted). StepHasParts (hosts d (came handlers d reading draw link) h))
        (λ h parts. hosted-by-rows handlers d reading draw StepHasParts _ by-rows link stage h parts) (incoming_rule handlers d reading draw link stage)
        (incoming-parts handlers (arrival_in (came handlers d reading draw link) d.own.mon_client stage) stage);
    asking = λ number link stage at is of. own-parts link _ (none-turned (arrival_in (came handlers d reading draw link) d.own.mon_client stage) stage);
    fetches_there = λ link s requests is. request-parts open_to_ask (arrival (me d.own) d.own.mon_client link reading draw) s requests (Rotating reading)
        (sealed_request s.keys requests asked.Rotating);
  }

-- with its book
pub daemon-parts : (handlers : Handlers) (s : DaemonState) (input : Input) (reading : ℕ) (draw : List ℕ) → AllByRecursion HasParts (daemon_step handlers s input reading draw).out.entries
daemon-parts handlers s input reading draw =
    always-book (StepHasParts handlers s.node reading draw) book_reply book_after s.book (daemon_rule handlers s.node input reading draw)
    (rests-keep handlers s.node reading draw input (StepHasParts handlers s.node reading draw) (each-has handlers s.node reading draw input))
