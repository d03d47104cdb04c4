-- A client keeps its name, and opens links but as it is told, whatever comes to it; and a turn of it takes some of what is ahead on its link.
use Rattle.std.proofs.Common.{◌≡◌, ℕ, Bool, List, [], Some, Result, Ok, Err, refl, ap, subst}
use Rattle.cx_base.specs.Names.{Name}
use Rattle.cx_base.specs.declared.operations.Operation.{Operation}
use Rattle.cx_rules_session.specs.cx_journal.specs.declared.outcomes.Reason.{Reason}
use Rattle.cx_rules_session.specs.cx_rules.specs.Connector as connector
use Rattle.cx_rules_session.specs.cx_rules.specs.Holdings.{MonClient}
use Rattle.cx_rules_session.specs.cx_rules.specs.Inputs.{Input, Submit}
use Rattle.cx_rules_session.specs.cx_rules.specs.Links.{Link}
use Rattle.cx_rules_session.specs.cx_rules.specs.Requests.{Requests, sealed_request, sends_request}
use Rattle.cx_rules_session.specs.cx_rules.specs.Rows.{Arrival, Outcome, Turned, Waits, Refuses, Handles, arrival, turns}
use Rattle.cx_rules_session.specs.cx_rules.specs.Secured.{SealedFrame, Secured, secure_frame}
use Rattle.cx_rules_session.specs.cx_rules.specs.declared.requests.Want.{Want}
use Rattle.cx_rules_session.specs.cx_rules.specs.declared.requests.Want.TheVariants.{Tickets}
use Rattle.cx_rules_session.specs.ClientRule.{ClientStage, ToMonitor, ToDaemon, WholeClient, WholeClientNode, caller_to, having_session, loses, me, open_to_ask, own_behind_gone, turned_at, whole_client_rule, with_mon_client, with_caller}
use Rattle.cx_rules_session.specs.Kinds.{arrival_in, turn_of_kind}
use Rattle.cx_rules_session.specs.Presenter as call
use Rattle.cx_rules_session.specs.Presenter.{Caller, CallStage, callee_of}
use Rattle.cx_rules_session.specs.Sessions.{Callee, HeldSession, operation_message}
use Rattle.cx_rules_session.specs.cx_session.specs.Queue.{pushed}
use Rattle.cx_rules_session.specs.cx_steps.specs.declared.events.Command.TheVariants as command
use Rattle.cx_rules_session.specs.cx_steps.specs.declared.events.Peer.TheVariants as peer
use Rattle.cx_rules_session.specs.cx_wire.specs.declared.bodies.Request.TheVariants as asked
use Rattle.cx_run.proofs.ClientTakes.{KeepsName, mon_client-named, mon_client-takes}
use Rattle.cx_run.proofs.Taking.{EachRow, TurnTakes, kind-takes, secure_sent-own}
use Rattle.cx_run.proofs.CallKeeps.{Leaves, call-takes}
use Rattle.cx_run.proofs.Outcomes.{EachOutcome, on_link, sent_in, step-keeps}
use Rattle.cx_run.specs.Calling.{LeadsTo, OpensAsTold}

-- ---- its name

module _ (c : WholeClientNode) (reading : ℕ) (draw : List ℕ) where
  abbrev Named : Outcome WholeClientNode → Type 0
  Named o = o.state.own.mon_client.name ≡ c.own.mon_client.name

  asks-named : (link : Link ClientStage) (stage : connector.Stage) → Named (turns c (on_link c reading draw link) (turn_of_kind (with_mon_client c.own) ToMonitor
      (connector.turned_at (arrival_in (on_link c reading draw link) c.own.mon_client stage) stage)))
  asks-named link stage =
      by_turned (connector.turned_at (arrival_in (on_link c reading draw link) c.own.mon_client stage) stage) (mon_client-named (arrival_in (on_link c reading draw link) c.own.mon_client stage) stage)
    where
      by_turned : (t : Turned MonClient connector.Stage) → KeepsName (arrival_in (on_link c reading draw link) c.own.mon_client stage) t
          → Named (turns c (on_link c reading draw link) (turn_of_kind (with_mon_client c.own) ToMonitor t))
      by_turned Waits k = refl
      by_turned (Refuses why opened) k = refl
      by_turned (Handles row) k = k

  presents-named : (link : Link ClientStage) (stage : CallStage) → let daemon = (callee_of stage).daemon in
      Named (turns c (on_link c reading draw link) (turn_of_kind (with_caller daemon c.own) ToDaemon
      (call.turned_at (arrival_in (on_link c reading draw link) (caller_to daemon c.own) stage) stage)))
  presents-named link stage =
      let daemon : Name = (callee_of stage).daemon in
      by_turned daemon (call.turned_at (arrival_in (on_link c reading draw link) (caller_to daemon c.own) stage) stage)
      (call-takes (arrival_in (on_link c reading draw link) (caller_to daemon c.own) stage) stage).leaves
    where
      by_turned : (daemon : Name) (t : Turned Caller CallStage) → EachRow (Leaves c.own.mon_client) t
          → Named (turns c (on_link c reading draw link) (turn_of_kind (with_caller daemon c.own) ToDaemon t))
      by_turned daemon Waits k = refl
      by_turned daemon (Refuses why opened) k = refl
      by_turned daemon (Handles row) k = ap (λ (mon_client : MonClient). mon_client.name) k.still.1

  loses-named : (link : Link ClientStage) → Named (loses c (Some link))
  loses-named link = by_stage link.stage
    where
      by_stage : (stage : ClientStage) → (own_behind_gone c.own stage).mon_client.name ≡ c.own.mon_client.name
      by_stage (ToMonitor stage) = refl
      by_stage (ToDaemon stage) = refl

  request-named : (a : Arrival MonClient ClientStage) (s : Secured) (requests : Requests) (want : Want) (sealed : Result SealedFrame Reason)
      → (sends_request open_to_ask a s requests want sealed).own.name ≡ a.own.name
  request-named a s requests want (Ok sealed) = refl
  request-named a s requests want (Err why) = refl

  sends-named : (session : HeldSession) (operation : Operation) (seq : ℕ) (link : Link ClientStage) (s : Secured) (callee : Callee) (cookie : ℕ)
      → Named (sent_in c reading draw session operation seq (Some (link, (s, (callee, cookie)))))
  sends-named session operation seq link s callee cookie =
      let behind : WholeClientNode = having_session c (record session { queue = pushed session.queue operation }) in
      ap (λ (own : WholeClient). own.mon_client.name)
      (secure_sent-own (arrival (me behind.own) behind.own link reading draw) s (λ t. ToDaemon (call.Open t callee cookie)) [] (secure_frame s.keys (operation_message (seq, operation))))

  each-named : (input : Input) → EachOutcome c reading draw input Named
  each-named input = record {
    idle = refl;
    comes = λ number link bytes is. refl;
    asks = λ number link stage is of. asks-named link stage;
    presents = λ number link stage is of. presents-named link stage;
    refuses = λ why told. refl;
    begins = λ number to dial is. refl;
    reaches_none = λ to. refl;
    goes = λ number link is. loses-named link;
    logs = λ services. refl;
    renews_there = λ services link s requests is.
        request-named (arrival (me c.own) c.own.mon_client link reading draw) s requests Tickets (sealed_request s.keys requests (asked.Tickets services));
    dials = λ daemon lossy held is of. refl;
    sends_later = λ daemon session operation seq of. refl;
    sends_there = λ daemon session operation seq link s callee cookie of is. sends-named session operation seq link s callee cookie;
    restarts = refl;
  }

pub whole-named : (c : WholeClientNode) (input : Input) (reading : ℕ) (draw : List ℕ) → (whole_client_rule c input reading draw).state.own.mon_client.name ≡ c.own.mon_client.name
whole-named c input reading draw = step-keeps c reading draw (Named c reading draw) input (each-named c reading draw input)

-- ---- the links that it opens

turns-open : (c : WholeClientNode) (input : Input) (a : Arrival WholeClient ClientStage) (t : Turned WholeClient ClientStage) → OpensAsTold input (turns c a t).out
turns-open c input a Waits = tt
turns-open c input a (Refuses why opened) = tt
turns-open c input a (Handles row) = tt

each-opens : (c : WholeClientNode) (reading : ℕ) (draw : List ℕ) (input : Input) → EachOutcome c reading draw input (λ o. OpensAsTold input o.out)
each-opens c reading draw input = record {
  idle = tt;
  comes = λ number link bytes is. tt;
  asks = λ number link stage is of. turns-open c input (on_link c reading draw link) _;
  presents = λ number link stage is of. turns-open c input (on_link c reading draw link) _;
  refuses = λ why told. tt;
  begins = λ number to dial is. tt;
  reaches_none = λ to. tt;
  goes = λ number link is. tt;
  logs = λ services. (tt, tt);
  renews_there = λ services link s requests is. tt;
  dials = λ daemon lossy held is of. (subst (λ (i : Input). LeadsTo i (peer.Daemon daemon)) (said-back input daemon lossy is) refl, tt);
  sends_later = λ daemon session operation seq of. tt;
  sends_there = λ daemon session operation seq link s callee cookie of is. tt;
  restarts = tt;
}
  where
    said-back : (i : Input) (daemon : Name) (lossy : Bool) → i ≡ Submit (command.Connect daemon lossy) → Submit (command.Connect daemon lossy) ≡ i
    said-back i daemon lossy is = cc

pub whole-opens : (c : WholeClientNode) (input : Input) (reading : ℕ) (draw : List ℕ) → OpensAsTold input (whole_client_rule c input reading draw).out
whole-opens c input reading draw = step-keeps c reading draw (λ o. OpensAsTold input o.out) input (each-opens c reading draw input)

-- ---- a turn takes of its link

pub whole-takes : (c : WholeClientNode) (reading : ℕ) (draw : List ℕ) (link : Link ClientStage) (stage : ClientStage)
    → TurnTakes link (turned_at (on_link c reading draw link) stage)
whole-takes c reading draw link (ToMonitor stage) =
    let a = arrival_in (on_link c reading draw link) c.own.mon_client stage in
    kind-takes (with_mon_client c.own) ToMonitor link stage (connector.turned_at a stage) (mon_client-takes a stage)
whole-takes c reading draw link (ToDaemon stage) =
    let daemon : Name = (callee_of stage).daemon in
    let a = arrival_in (on_link c reading draw link) (caller_to daemon c.own) stage in
    kind-takes (with_caller daemon c.own) ToDaemon link stage (call.turned_at a stage) (call-takes a stage).takes
