-- What a client enters, at each step: an operation that it sends is one that it was told to send.
use Rattle.std.proofs.Common.{◌≡◌, ℕ, ◌==◌, ◌-◌, ◌^◌, ◌+◌, Bool, true, false, List, [], ◌∷◌, Some, Result, Ok, Err, subst}
use Rattle.std.specs.Prelude.{if◌then◌else◌}
use Rattle.std.specs.List.{AllByRecursion}
use Rattle.cx_base.specs.Names.{Name}
use Rattle.cx_base.specs.declared.operations.Operation.{Operation}
use Rattle.cx_journal.specs.declared.entries.Entry.{Entry}
use Rattle.cx_journal.specs.declared.entries.Entry.TheVariants as journal
use Rattle.cx_journal.specs.declared.faults.BytesFault.{BytesFault}
use Rattle.cx_journal.specs.declared.outcomes.Reason.TheVariants as reason
use Rattle.cx_laws_run.specs.cx_laws_tickets.proofs.calling.ClientAfter.{of-login}
use Rattle.cx_laws_run.specs.cx_laws_keys.proofs.login.NoTickets.{IsOfMonClient, RowOfMonClient, none-turned}
use Rattle.cx_laws_run.specs.cx_laws_keys.proofs.login.Proving.{RowOf}
use Rattle.cx_laws_run.proofs.sent.EachStep.{EachStep, each-step}
use Rattle.cx_laws_run.specs.cx_rules.specs.Connector as connector
use Rattle.cx_laws_run.specs.cx_rules.specs.Holdings.{MonClient}
use Rattle.cx_laws_run.specs.cx_rules.specs.Inputs.{Input, Submit}
use Rattle.cx_laws_run.specs.cx_rules.specs.Links.{Link}
use Rattle.cx_laws_run.specs.cx_rules.specs.Requests.{Requests, request_message, sends_request, unless_unsealed}
use Rattle.cx_laws_run.specs.cx_rules.specs.Rows.{Outcome, Turned, Waits, Refuses, Handles, arrival, carried_out, lifted, refused_entry, secure_sent, turns}
use Rattle.cx_laws_run.specs.cx_rules.specs.Secured.{SealedFrame, Secured, secure_frame}
use Rattle.cx_laws_run.specs.cx_rules.specs.declared.requests.Want.TheVariants as want
use Rattle.cx_laws_run.specs.cx_rules_session.specs.ClientRule.{ClientStage, ToMonitor, ToDaemon, WholeClientNode, caller_to, having_session, is_open, loses, me, open_to_ask, sent_entry, whole_client_rule, with_mon_client, with_caller}
use Rattle.cx_laws_run.specs.cx_rules_session.specs.Kinds.{arrival_in, entered_before, turn_of_kind}
use Rattle.cx_laws_run.specs.cx_rules_session.specs.Presenter as call
use Rattle.cx_laws_run.specs.cx_rules_session.specs.Presenter.{CallStage, Caller, callee_of}
use Rattle.cx_laws_run.specs.cx_rules_session.specs.Sessions.{Callee, HeldSession, operation_message}
use Rattle.cx_laws_run.specs.cx_run.proofs.CallKeeps.{IsCallEntry, Leaves, call-takes}
use Rattle.cx_laws_run.specs.cx_run.proofs.Outcomes.{mon_client_turn, call_turn, on_link, renewed, sent_in}
use Rattle.cx_laws_run.specs.cx_run.proofs.Taking.{EachRow}
use Rattle.cx_laws_run.specs.cx_run.specs.Sending.{IsWrittenInput}
use Rattle.cx_laws_keys.proofs.keys.Lists.{all-map}
use Rattle.cx_session.specs.Queue.{pushed}
use Rattle.cx_steps.specs.declared.events.Command.TheVariants as command
use Rattle.cx_wire.specs.Operations.{IsWritable}
use Rattle.cx_wire.specs.declared.bodies.Request.TheVariants as asked
use Rattle.cx_laws_legal.proofs.entered.Shown.{AreParts, Shows, login-shows}

-- one that asks enters no operation, and refuses no ticket
pub mon_client-shows : (e : Entry) → IsOfMonClient e → Shows e
mon_client-shows (journal.Refused r) h = login-shows r.node r.reason h
mon_client-shows (journal.Sent x) h = absurd h
mon_client-shows (journal.Handled x) h = absurd h
mon_client-shows _ h = tt

-- nor does one that calls a daemon
call-shows : (mon_client : MonClient) (e : Entry) → IsCallEntry mon_client e → Shows e
call-shows mon_client (journal.Refused r) h = login-shows r.node r.reason (of-login r.reason h)
call-shows mon_client (journal.Sent x) h = absurd h
call-shows mon_client (journal.Handled x) h = absurd h
call-shows mon_client _ h = tt

written-parts : (o : Operation) → IsWritable o → AreParts o
written-parts o w = (w.pool, w.namespace, w.object)

module _ (c : WholeClientNode) (reading : ℕ) (draw : List ℕ) where
  abbrev StepShows : Outcome WholeClientNode → Type 0
  StepShows o = AllByRecursion Shows o.out.entries

  asks-show : (link : Link ClientStage) (stage : connector.Stage) → StepShows (mon_client_turn c reading draw link stage)
  asks-show link stage =
      by_turned (connector.turned_at (arrival_in (on_link c reading draw link) c.own.mon_client stage) stage) (none-turned (arrival_in (on_link c reading draw link) c.own.mon_client stage) stage)
    where
      by_turned : (t : Turned MonClient connector.Stage) → RowOf (RowOfMonClient c.own.mon_client) t → StepShows (turns c (on_link c reading draw link) (turn_of_kind (with_mon_client c.own) ToMonitor t))
      by_turned Waits h = tt
      by_turned (Refuses why opened) h = (tt, tt)
      by_turned (Handles row) h = all-map IsOfMonClient Shows mon_client-shows row.entries h.enters

  presents-show : (link : Link ClientStage) (stage : CallStage) → StepShows (call_turn c reading draw link stage)
  presents-show link stage =
      let daemon : Name = (callee_of stage).daemon in
      by_turned daemon (call.turned_at (arrival_in (on_link c reading draw link) (caller_to daemon c.own) stage) stage)
      (call-takes (arrival_in (on_link c reading draw link) (caller_to daemon c.own) stage) stage).leaves
    where
      by_turned : (daemon : Name) (t : Turned Caller CallStage) → EachRow (Leaves c.own.mon_client) t → StepShows (turns c (on_link c reading draw link) (turn_of_kind (with_caller daemon c.own) ToDaemon t))
      by_turned daemon Waits h = tt
      by_turned daemon (Refuses why opened) h = (tt, tt)
      by_turned daemon (Handles row) h = all-map (IsCallEntry c.own.mon_client) Shows (call-shows c.own.mon_client) row.entries h.enters

  goes-show : (link : Link ClientStage) → StepShows (loses c (Some link))
  goes-show link = by_test (is_open link.stage)
    where
      by_test : (t : Bool) → AllByRecursion Shows (if t then [] else refused_entry (me c.own) link.number reason.Lost ∷ [])
      by_test true = tt
      by_test false = (tt, tt)

  renews-show : (services : ℕ) (link : Link ClientStage) (s : Secured) (requests : Requests) → StepShows (renewed c reading draw services link s requests)
  renews-show services link s requests = by_count (requests.count == 2 ^ 64 - 1)
    where
      by_sent : (made : Result SealedFrame BytesFault) → StepShows (carried_out c link.number false
          (lifted (with_mon_client c.own) (sends_request open_to_ask (arrival (me c.own) c.own.mon_client link reading draw) s requests want.Tickets (unless_unsealed made))))
      by_sent (Ok sealed) = tt
      by_sent (Err why) = (tt, tt)

      by_count : (spent : Bool) → StepShows (carried_out c link.number false
          (lifted (with_mon_client c.own) (sends_request open_to_ask (arrival (me c.own) c.own.mon_client link reading draw) s requests want.Tickets
          (if spent then Err reason.Spent else unless_unsealed (secure_frame s.keys (request_message (requests.count + 1) (asked.Tickets services)))))))
      by_count true = (tt, tt)
      by_count false = by_sent (secure_frame s.keys (request_message (requests.count + 1) (asked.Tickets services)))

  sends-show : (session : HeldSession) (operation : Operation) (seq : ℕ) (link : Link ClientStage) (s : Secured) (callee : Callee) (cookie : ℕ) → AreParts operation
      → StepShows (sent_in c reading draw session operation seq (Some (link, (s, (callee, cookie)))))
  sends-show session operation seq link s callee cookie parts = by_sent (secure_frame s.keys (operation_message (seq, operation)))
    where
      by_sent : (made : Result SealedFrame BytesFault) →
          let m : WholeClientNode = having_session c (record session { queue = pushed session.queue operation }) in
          StepShows (carried_out m link.number false (entered_before (sent_entry c.own session seq operation)
          (secure_sent (arrival (me m.own) m.own link reading draw) s (λ behind. ToDaemon (call.Open behind callee cookie)) [] made)))
      by_sent (Ok sealed) = (parts, tt)
      by_sent (Err why) = (parts, (tt, tt))

  told-parts : (input : Input) → IsWrittenInput input → (daemon : Name) (operation : Operation) → input ≡ Submit (command.Send daemon operation) → AreParts operation
  told-parts input written daemon operation is = written-parts operation (subst IsWrittenInput is written)

  each-shows : (input : Input) → IsWrittenInput input → EachStep c reading draw input StepShows
  each-shows input written = record {
    idle = tt;
    comes = λ number link bytes is. tt;
    asks = λ number link stage is of. asks-show link stage;
    presents = λ number link stage is of. presents-show link stage;
    refuses = λ why told. (login-shows (me c.own) why (of-login why told), tt);
    begins = λ number to dial is. tt;
    reaches_none = λ to. (tt, tt);
    goes = λ number link is. goes-show link;
    logs = λ services. tt;
    renews_there = λ services link s requests is. renews-show services link s requests;
    dials = λ daemon lossy held is of. tt;
    sends_later = λ daemon session operation seq told of gives. (told-parts input written daemon operation told, tt);
    sends_there = λ daemon session operation seq link s callee cookie told of gives is. sends-show session operation seq link s callee cookie (told-parts input written daemon operation told);
    restarts = (tt, tt);
  }

pub client-shows : (c : WholeClientNode) (input : Input) (reading : ℕ) (draw : List ℕ) → IsWrittenInput input → AllByRecursion Shows (whole_client_rule c input reading draw).out.entries
client-shows c input reading draw written = each-step c reading draw (StepShows c reading draw) input (each-shows c reading draw input written)
