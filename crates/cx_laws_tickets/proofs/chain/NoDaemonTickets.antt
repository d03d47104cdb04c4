-- No step of an entity issues a ticket, whatever comes to it and whatever a daemon's book replies.
use Rattle.std.proofs.Common.{ℕ, List, Result, Ok, Err}
use Rattle.std.specs.List.{AllByRecursion}
use Rattle.cx_laws_tickets.proofs.calling.Entering.{whole-none}
use Rattle.cx_laws_tickets.specs.cx_desk.specs.Handlers.{Handlers}
use Rattle.cx_laws_tickets.specs.cx_journal.specs.declared.entries.Entry.{Entry}
use Rattle.cx_laws_tickets.specs.cx_journal.specs.declared.entries.Entry.TheVariants as entry
use Rattle.cx_laws_tickets.specs.cx_journal.specs.declared.outcomes.Reason.{Reason}
use Rattle.cx_laws_tickets.specs.cx_laws_keys.proofs.keys.Journal.{IsNotIssued}
use Rattle.cx_laws_tickets.specs.cx_laws_keys.proofs.keys.Lists.{all-map}
use Rattle.cx_laws_tickets.specs.cx_laws_keys.proofs.login.NoTickets.{IsOfMonClient, RowOfMonClient, none-turned}
use Rattle.cx_laws_tickets.specs.cx_laws_keys.proofs.login.Proving.{RowOf}
use Rattle.cx_laws_tickets.specs.cx_rules.specs.Connector as connector
use Rattle.cx_laws_tickets.specs.cx_rules.specs.Holdings.{MonClient}
use Rattle.cx_laws_tickets.specs.cx_rules.specs.Inputs.{Input}
use Rattle.cx_laws_tickets.specs.cx_rules.specs.Links.{Link}
use Rattle.cx_laws_tickets.specs.cx_rules.specs.Requests.{Requests, sealed_request, sends_request}
use Rattle.cx_laws_tickets.specs.cx_rules.specs.Rows.{Arrival, Outcome, Turned, Waits, Refuses, Handles, arrival, turns}
use Rattle.cx_laws_tickets.specs.cx_rules.specs.Secured.{SealedFrame, Secured}
use Rattle.cx_laws_tickets.specs.cx_rules.specs.declared.requests.Want.TheVariants.{Rotating}
use Rattle.cx_laws_tickets.specs.cx_rules.specs.declared.requests.Want.{Want}
use Rattle.cx_laws_tickets.specs.cx_rules_session.specs.DaemonRule.{AsConnector, DaemonNode, DaemonStage, book_after, book_reply, daemon_rule, hosts, me, open_to_ask, with_mon_client}
use Rattle.cx_laws_tickets.specs.cx_rules_session.specs.Hosting.{Hosted}
use Rattle.cx_laws_tickets.specs.cx_rules_session.specs.Kinds.{arrival_in, turn_of_kind}
use Rattle.cx_laws_tickets.specs.cx_run.proofs.Always.{always-book, always-weaker}
use Rattle.cx_laws_tickets.specs.cx_run.proofs.DaemonOutcomes.{ByRows, IsRest, RestEntry, RestsAndTurns, came, incoming_rule, hosted-by-rows, rests-keep}
use Rattle.cx_laws_tickets.specs.cx_run.proofs.IncomingTakes.{IssuesNone, StaysIncoming, TakesHosted, incoming-takes}
use Rattle.cx_laws_tickets.specs.cx_run.specs.Happenings.{EntityNode, OfClient, OfDaemon, entity_rule}
use Rattle.cx_laws_tickets.specs.cx_wire.specs.declared.bodies.Request.TheVariants as asked

not-issued : (e : Entry) → IssuesNone e → IsNotIssued e
not-issued (entry.Issued ticket) h = absurd h
not-issued _ h = tt

mon_client-not_issued : (e : Entry) → IsOfMonClient e → IsNotIssued e
mon_client-not_issued (entry.Issued ticket) h = absurd h
mon_client-not_issued _ h = tt

rest-not_issued : (e : Entry) → RestEntry e → IsNotIssued e
rest-not_issued (entry.Issued ticket) h = absurd h
rest-not_issued _ h = tt

abbrev IssuesNothing : Outcome DaemonNode → Type 0
IssuesNothing o = AllByRecursion IsNotIssued o.out.entries

-- a request that is sent, or can't be
request-issues : (open_under : Secured → Requests → DaemonStage) (a : Arrival MonClient DaemonStage) (s : Secured) (requests : Requests) (want : Want) (sealed : Result SealedFrame Reason)
    → AllByRecursion IsNotIssued (sends_request open_under a s requests want sealed).entries
request-issues open_under a s requests want (Ok sealed) = tt
request-issues open_under a s requests want (Err why) = (tt, tt)

module _ (handlers : Handlers) (d : DaemonNode) (reading : ℕ) (draw : List ℕ) where
  by-rows : ByRows handlers d reading draw IssuesNothing (λ link stage. StaysIncoming (arrival_in (came handlers d reading draw link) d.own.mon_client stage))
  by-rows = record {
    idle = tt;
    moves = λ number session o h. h;
    broken = λ link why opened. (tt, tt);
    rows = λ link stage row h. all-map IssuesNone IsNotIssued not-issued row.entries h.1;
  }

  own-issues : (link : Link DaemonStage) (t : Turned MonClient connector.Stage) → RowOf (RowOfMonClient d.own.mon_client) t
      → IssuesNothing (turns d (came handlers d reading draw link) (turn_of_kind (with_mon_client d.own) AsConnector t))
  own-issues link Waits k = tt
  own-issues link (Refuses why opened) k = (tt, tt)
  own-issues link (Handles row) k = all-map IsOfMonClient IsNotIssued mon_client-not_issued row.entries k.enters

  rest-issues : (o : Outcome DaemonNode) → IsRest d o → IssuesNothing o
  rest-issues o r = all-map RestEntry IsNotIssued rest-not_issued o.out.entries r.entries

  each-issues : (input : Input) → RestsAndTurns handlers d reading draw input IssuesNothing
  each-issues input = record {
    rests = λ o r own. rest-issues o r;
    shown = λ view is r. tt;
    restarts = λ r. (tt, tt);
    hosting = λ number link stage at is of.
        always-weaker (TakesHosted (arrival_in (came handlers d reading draw link) d.own.mon_client stage)) (λ (h : Hosted). IssuesNothing (hosts d (came handlers d reading draw link) h))
        (λ h takes. hosted-by-rows handlers d reading draw IssuesNothing _ by-rows link stage h takes.stays) (incoming_rule handlers d reading draw link stage)
        (incoming-takes handlers (arrival_in (came handlers d reading draw link) d.own.mon_client stage) stage);
    asking = λ number link stage at is of. own-issues link _ (none-turned (arrival_in (came handlers d reading draw link) d.own.mon_client stage) stage);
    fetches_there = λ link s requests is. request-issues open_to_ask (arrival (me d.own) d.own.mon_client link reading draw) s requests (Rotating reading)
        (sealed_request s.keys requests asked.Rotating);
  }

pub entity-none : (handlers : Handlers) (entity : EntityNode) (input : Input) (reading : ℕ) (draw : List ℕ)
    → AllByRecursion IsNotIssued (entity_rule handlers entity input reading draw).out.entries
entity-none handlers (OfClient client) input reading draw = whole-none client input reading draw
entity-none handlers (OfDaemon daemon) input reading draw =
    always-book IssuesNothing book_reply book_after daemon.book (daemon_rule handlers daemon.node input reading draw)
    (rests-keep handlers daemon.node reading draw input IssuesNothing (each-issues handlers daemon.node reading draw input))
