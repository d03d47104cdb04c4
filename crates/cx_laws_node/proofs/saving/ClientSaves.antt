-- A client saves nothing.
use Rattle.std.proofs.Common.{◌≡◌, ℕ, List, [], Some, None, Result, Ok, Err, refl}
use Rattle.cx_base.specs.Names.{Name}
use Rattle.cx_base.specs.declared.operations.Operation.{Operation}
use Rattle.cx_journal.specs.declared.faults.BytesFault.{BytesFault}
use Rattle.cx_run.specs.cx_rules.specs.Connector as connector
use Rattle.cx_run.specs.cx_rules.specs.Holdings.{MonClient}
use Rattle.cx_run.specs.cx_rules.specs.Inputs.{Input}
use Rattle.cx_run.specs.cx_rules.specs.Links.{Link}
use Rattle.cx_run.specs.cx_rules.specs.Requests.{sealed_request}
use Rattle.cx_run.specs.cx_rules.specs.Rows.{Outcome, Turned, Waits, Refuses, Handles, arrival, secure_sent, turns}
use Rattle.cx_run.specs.cx_rules.specs.Secured.{SealedFrame, Secured, secure_frame}
use Rattle.cx_run.specs.cx_rules.specs.declared.requests.Want.TheVariants.{Tickets}
use Rattle.cx_run.specs.cx_rules_session.specs.ClientRule.{ClientStage, ToMonitor, ToDaemon, WholeClientNode, caller_to, having_session, me, open_to_ask, whole_client_rule, with_mon_client, with_caller}
use Rattle.cx_run.specs.cx_rules_session.specs.Kinds.{arrival_in, turn_of_kind}
use Rattle.cx_run.specs.cx_rules_session.specs.Presenter as call
use Rattle.cx_run.specs.cx_rules_session.specs.Presenter.{CallStage, Caller, callee_of}
use Rattle.cx_run.specs.cx_rules_session.specs.Sessions.{Callee, HeldSession, operation_message}
use Rattle.cx_run.proofs.Taking.{EachRow}
use Rattle.cx_session.specs.Queue.{pushed}
use Rattle.cx_run.specs.cx_wire.specs.declared.bodies.Request.TheVariants as asked
use Rattle.cx_run.proofs.CallKeeps.{Leaves, call-takes}
use Rattle.cx_run.proofs.Outcomes.{EachOutcome, mon_client_turn, call_turn, on_link, sent_in, step-keeps}
use Rattle.cx_laws_node.proofs.saving.MonClientSaves.{mon_client-none, fetch-none}
use Rattle.cx_laws_node.proofs.saving.IncomingSaves.{SavesNone}

module _ (c : WholeClientNode) (reading : ℕ) (draw : List ℕ) where
  abbrev KeepsNone : Outcome WholeClientNode → Type 0
  KeepsNone o = o.out.save ≡ None

  asks-none : (link : Link ClientStage) (stage : connector.Stage) → KeepsNone (mon_client_turn c reading draw link stage)
  asks-none link stage =
      let a = arrival_in (on_link c reading draw link) c.own.mon_client stage in by_turned (connector.turned_at a stage) (mon_client-none a stage)
    where
      by_turned : (t : Turned MonClient connector.Stage) → EachRow SavesNone t → KeepsNone (turns c (on_link c reading draw link) (turn_of_kind (with_mon_client c.own) ToMonitor t))
      by_turned Waits h = refl
      by_turned (Refuses why opened) h = refl
      by_turned (Handles row) h = h

  presents-none : (link : Link ClientStage) (stage : CallStage) → KeepsNone (call_turn c reading draw link stage)
  presents-none link stage =
      let daemon : Name = (callee_of stage).daemon in
      let a = arrival_in (on_link c reading draw link) (caller_to daemon c.own) stage in
      by_turned daemon (call.turned_at a stage) (call-takes a stage).leaves
    where
      by_turned : (daemon : Name) (t : Turned Caller CallStage) → EachRow (Leaves c.own.mon_client) t
          → KeepsNone (turns c (on_link c reading draw link) (turn_of_kind (with_caller daemon c.own) ToDaemon t))
      by_turned daemon Waits h = refl
      by_turned daemon (Refuses why opened) h = refl
      by_turned daemon (Handles row) h = h.saves_none

  sends-none : (session : HeldSession) (operation : Operation) (seq : ℕ) (link : Link ClientStage) (s : Secured) (callee : Callee) (cookie : ℕ)
      → KeepsNone (sent_in c reading draw session operation seq (Some (link, (s, (callee, cookie)))))
  sends-none session operation seq link s callee cookie = by_sent (secure_frame s.keys (operation_message (seq, operation)))
    where
      by_sent : (made : Result SealedFrame BytesFault) →
          let m : WholeClientNode = having_session c (record session { queue = pushed session.queue operation }) in
          (secure_sent (arrival (me m.own) m.own link reading draw) s (λ behind. ToDaemon (call.Open behind callee cookie)) [] made).save ≡ None
      by_sent (Ok sealed) = refl
      by_sent (Err why) = refl

  each-none : (input : Input) → EachOutcome c reading draw input KeepsNone
  each-none input = record {
    idle = refl;
    comes = λ number link bytes is. refl;
    asks = λ number link stage is of. asks-none link stage;
    presents = λ number link stage is of. presents-none link stage;
    refuses = λ why told. refl;
    begins = λ number to dial is. refl;
    reaches_none = λ to. refl;
    goes = λ number link is. refl;
    logs = λ services. refl;
    renews_there = λ services link s requests is.
        fetch-none open_to_ask (arrival (me c.own) c.own.mon_client link reading draw) s requests Tickets (sealed_request s.keys requests (asked.Tickets services));
    dials = λ daemon lossy held is of. refl;
    sends_later = λ daemon session operation seq of. refl;
    sends_there = λ daemon session operation seq link s callee cookie of is. sends-none session operation seq link s callee cookie;
    restarts = refl;
  }

pub client_saves_none : (c : WholeClientNode) (input : Input) (reading : ℕ) (draw : List ℕ) → (whole_client_rule c input reading draw).out.save ≡ None
client_saves_none c input reading draw = step-keeps c reading draw (KeepsNone c reading draw) input (each-none c reading draw input)
