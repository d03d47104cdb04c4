-- What a client enters, whatever comes: nothing of a daemon's sessions; at most that it began anew.
use Rattle.std.proofs.Common.{◌≡◌, ℕ, Bool, true, false, List, [], ◌∷◌, ◌++◌, Some, Result, Ok, Err, refl, ap, ◌∙◌, subst, sym}
use Rattle.std.specs.Prelude.{if◌then◌else◌}
use Rattle.std.specs.List.{AllByRecursion}
use Rattle.cx_base.specs.Names.{Name}
use Rattle.cx_base.specs.declared.nodes.NodeName.{NodeName}
use Rattle.cx_base.specs.declared.nodes.NodeName.TheVariants as node
use Rattle.cx_base.specs.declared.operations.Operation.{Operation}
use Rattle.cx_desk.specs.Handlers.{Handlers}
use Rattle.cx_journal.specs.Behind.{EachBehind}
use Rattle.cx_journal.specs.Enforced.{IsEnforcedBy}
use Rattle.cx_journal.specs.Nodes.{is_node_of}
use Rattle.cx_journal.specs.declared.entries.Entry.{Entry}
use Rattle.cx_journal.specs.declared.entries.Entry.TheVariants as entry
use Rattle.cx_journal.specs.declared.faults.BytesFault.{BytesFault}
use Rattle.cx_journal.specs.declared.outcomes.Reason.TheVariants.{Lost}
use Rattle.cx_run.specs.cx_rules.specs.Connector as connector
use Rattle.cx_run.specs.cx_rules.specs.Holdings.{MonClient}
use Rattle.cx_run.specs.cx_rules.specs.Inputs.{Input}
use Rattle.cx_run.specs.cx_rules.specs.Links.{Link}
use Rattle.cx_run.specs.cx_rules.specs.Requests.{Requests, sealed_request, sends_request}
use Rattle.cx_run.specs.cx_rules.specs.Rows.{Arrival, Outcome, Turned, Waits, Refuses, Handles, arrival, carried_out, refused_entry, secure_sent, turns}
use Rattle.cx_run.specs.cx_rules.specs.Secured.{SealedFrame, Secured, secure_frame}
use Rattle.cx_run.specs.cx_rules.specs.declared.requests.Want.TheVariants.{Tickets}
use Rattle.cx_run.specs.cx_rules_session.specs.ClientRule.{ClientStage, ToMonitor, ToDaemon, WholeClientNode, caller_to, having_session, is_open, loses, me, open_to_ask, sent_entry, whole_client_rule, with_mon_client, with_caller}
use Rattle.cx_run.specs.cx_rules_session.specs.Kinds.{arrival_in, entered_before, turn_of_kind}
use Rattle.cx_run.specs.cx_rules_session.specs.Presenter as call
use Rattle.cx_run.specs.cx_rules_session.specs.Presenter.{CallStage, Caller, callee_of}
use Rattle.cx_run.specs.cx_rules_session.specs.Sessions.{Callee, HeldSession, operation_message}
use Rattle.cx_run.proofs.CallKeeps.{IsCallEntry, Leaves, call-takes}
use Rattle.cx_run.proofs.Outcomes.{EachOutcome, mon_client_turn, call_turn, on_link, renewed, sent_in, step-keeps}
use Rattle.cx_run.proofs.Taking.{EachRow}
use Rattle.cx_session.specs.Queue.{pushed}
use Rattle.cx_run.specs.cx_wire.specs.declared.bodies.Request.TheVariants as asked
use Rattle.cx_laws_sessions.specs.session.Serving.{serves}
use Rattle.cx_laws_sessions.proofs.session.MonClients.{EntersNone, mon_client-enters, fetch-enters}
use Rattle.cx_laws_sessions.proofs.session.Lists.{all-map}
use Rattle.cx_laws_sessions.proofs.session.Moves.{IsQuiet}
use Rattle.cx_laws_sessions.proofs.session.Standing.{LeavesOf, turns_session}

-- ---- of a node that has no sessions

-- the entry opens, ends and handles nothing, but that this node began anew; and what is sent and answered is so at this node
abbrev pub IsMute : NodeName → Entry → Type 0
IsMute who (entry.Admitted a) = ⊥
IsMute who (entry.Resumed a) = ⊥
IsMute who (entry.Sent s) = node.Entity s.client ≡ who
IsMute who (entry.Handled h) = ⊥
IsMute who (entry.Answered a) = node.Entity a.client ≡ who
IsMute who (entry.Ended e) = ⊥
IsMute who (entry.Restarted at) = at ≡ who
IsMute who _ = Unit {0}

pub quiet-mute : (who : NodeName) (e : Entry) → IsQuiet e → IsMute who e
quiet-mute who (entry.Admitted x) h = absurd h
quiet-mute who (entry.Resumed x) h = absurd h
quiet-mute who (entry.Handled x) h = absurd h
quiet-mute who (entry.Ended x) h = absurd h
quiet-mute who (entry.Restarted x) h = absurd h
quiet-mute who (entry.Saved x) h = tt
quiet-mute who (entry.Issued x) h = tt
quiet-mute who (entry.Fetched x) h = tt
quiet-mute who (entry.Looked x) h = tt
quiet-mute who (entry.Sent x) h = absurd h
quiet-mute who (entry.Answered x) h = absurd h
quiet-mute who (entry.Refused x) h = tt
quiet-mute who (entry.Broken x) h = tt
quiet-mute who (entry.Leaked x) h = tt

-- it leaves the sessions of each other node
one-leaves : (who : NodeName) (daemon : Name) → is_node_of daemon who ≡ false → (e : Entry) → IsMute who e → LeavesOf daemon e
one-leaves who daemon other (entry.Restarted at) h = subst (λ (n : NodeName). (number : ℕ) → turns_session daemon number (entry.Restarted n) ≡ false) (sym h) (λ number. other)
one-leaves who daemon other (entry.Admitted x) h = absurd h
one-leaves who daemon other (entry.Resumed x) h = absurd h
one-leaves who daemon other (entry.Handled x) h = absurd h
one-leaves who daemon other (entry.Ended x) h = absurd h
one-leaves who daemon other (entry.Saved x) h = λ number. refl
one-leaves who daemon other (entry.Issued x) h = λ number. refl
one-leaves who daemon other (entry.Fetched x) h = λ number. refl
one-leaves who daemon other (entry.Looked x) h = λ number. refl
one-leaves who daemon other (entry.Sent x) h = λ number. refl
one-leaves who daemon other (entry.Answered x) h = λ number. refl
one-leaves who daemon other (entry.Refused x) h = λ number. refl
one-leaves who daemon other (entry.Broken x) h = λ number. refl
one-leaves who daemon other (entry.Leaked x) h = λ number. refl

pub mute-leaves : (who : NodeName) (daemon : Name) → is_node_of daemon who ≡ false → (es : List Entry) → AllByRecursion (IsMute who) es → AllByRecursion (LeavesOf daemon) es
mute-leaves who daemon other es h = all-map (IsMute who) (LeavesOf daemon) (one-leaves who daemon other) es h

pub mute-enforced : (handlers : Handlers) (who : NodeName) (es J : List Entry) → AllByRecursion (IsMute who) es → EachBehind (IsEnforcedBy (serves handlers)) J es
mute-enforced handlers who [] J h = tt
mute-enforced handlers who (e ∷ es) J h = (one e h.0, mute-enforced handlers who es (J ++ e ∷ []) h.1)
  where
    one : (e : Entry) → IsMute who e → IsEnforcedBy (serves handlers) J e
    one (entry.Handled handled) r = absurd r
    one _ r = tt

-- ---- a client

-- what a link to a daemon enters is a refusal or an answer
call-mute : (mon_client : MonClient) (who : NodeName) → node.Entity mon_client.name ≡ who → (e : Entry) → IsCallEntry mon_client e → IsMute who e
call-mute mon_client who own (entry.Refused x) h = tt
call-mute mon_client who own (entry.Answered x) h = ap (λ (n : Name). node.Entity n) h ∙ own
call-mute mon_client who own (entry.Admitted x) h = absurd h
call-mute mon_client who own (entry.Resumed x) h = absurd h
call-mute mon_client who own (entry.Handled x) h = absurd h
call-mute mon_client who own (entry.Ended x) h = absurd h
call-mute mon_client who own (entry.Restarted x) h = absurd h
call-mute mon_client who own (entry.Saved x) h = absurd h
call-mute mon_client who own (entry.Issued x) h = absurd h
call-mute mon_client who own (entry.Fetched x) h = absurd h
call-mute mon_client who own (entry.Looked x) h = absurd h
call-mute mon_client who own (entry.Sent x) h = absurd h
call-mute mon_client who own (entry.Broken x) h = absurd h
call-mute mon_client who own (entry.Leaked x) h = absurd h

module _ (c : WholeClientNode) (reading : ℕ) (draw : List ℕ) where
  abbrev AreMute : List Entry → Type 0
  AreMute es = AllByRecursion (IsMute (me c.own)) es

  abbrev EntersMute : Outcome WholeClientNode → Type 0
  EntersMute o = AreMute o.out.entries

  quiet-all : (es : List Entry) → AllByRecursion IsQuiet es → AreMute es
  quiet-all es h = all-map IsQuiet (IsMute (me c.own)) (quiet-mute (me c.own)) es h

  asks-mute : (link : Link ClientStage) (stage : connector.Stage) → EntersMute (mon_client_turn c reading draw link stage)
  asks-mute link stage =
      let a = arrival_in (on_link c reading draw link) c.own.mon_client stage in by_turned (connector.turned_at a stage) (mon_client-enters a stage)
    where
      by_turned : (t : Turned MonClient connector.Stage) → EachRow EntersNone t → EntersMute (turns c (on_link c reading draw link) (turn_of_kind (with_mon_client c.own) ToMonitor t))
      by_turned Waits h = tt
      by_turned (Refuses why opened) h = (tt, tt)
      by_turned (Handles row) h = quiet-all row.entries h

  presents-mute : (link : Link ClientStage) (stage : CallStage) → EntersMute (call_turn c reading draw link stage)
  presents-mute link stage =
      let daemon : Name = (callee_of stage).daemon in
      let a = arrival_in (on_link c reading draw link) (caller_to daemon c.own) stage in
      by_turned daemon (call.turned_at a stage) (call-takes a stage).leaves
    where
      by_turned : (daemon : Name) (t : Turned Caller CallStage) → EachRow (Leaves c.own.mon_client) t
          → EntersMute (turns c (on_link c reading draw link) (turn_of_kind (with_caller daemon c.own) ToDaemon t))
      by_turned daemon Waits h = tt
      by_turned daemon (Refuses why opened) h = (tt, tt)
      by_turned daemon (Handles row) h = all-map (IsCallEntry c.own.mon_client) (IsMute (me c.own)) (call-mute c.own.mon_client (me c.own) refl) row.entries h.enters

  goes-mute : (link : Link ClientStage) → EntersMute (loses c (Some link))
  goes-mute link = by_test (is_open link.stage)
    where
      by_test : (open_ : Bool) → AreMute (if open_ then [] else refused_entry (me c.own) link.number Lost ∷ [])
      by_test true = tt
      by_test false = (tt, tt)

  renews-mute : (services : ℕ) (link : Link ClientStage) (s : Secured) (requests : Requests) → EntersMute (renewed c reading draw services link s requests)
  renews-mute services link s requests =
      let a : Arrival MonClient ClientStage = arrival (me c.own) c.own.mon_client link reading draw in
      let sealed = sealed_request s.keys requests (asked.Tickets services) in
      quiet-all (sends_request open_to_ask a s requests Tickets sealed).entries (fetch-enters open_to_ask a s requests Tickets sealed)

  sends-mute : (session : HeldSession) (operation : Operation) (seq : ℕ) (link : Link ClientStage) (s : Secured) (callee : Callee) (cookie : ℕ)
      → EntersMute (sent_in c reading draw session operation seq (Some (link, (s, (callee, cookie)))))
  sends-mute session operation seq link s callee cookie = by_sent (secure_frame s.keys (operation_message (seq, operation)))
    where
      by_sent : (made : Result SealedFrame BytesFault) →
          let m : WholeClientNode = having_session c (record session { queue = pushed session.queue operation }) in
          EntersMute (carried_out m link.number false (entered_before (sent_entry c.own session seq operation)
          (secure_sent (arrival (me m.own) m.own link reading draw) s (λ behind. ToDaemon (call.Open behind callee cookie)) [] made)))
      by_sent (Ok sealed) = (refl, tt)
      by_sent (Err why) = (refl, (tt, tt))

  each-mute : (input : Input) → EachOutcome c reading draw input EntersMute
  each-mute input = record {
    idle = tt;
    comes = λ number link bytes is. tt;
    asks = λ number link stage is of. asks-mute link stage;
    presents = λ number link stage is of. presents-mute link stage;
    refuses = λ why told. (tt, tt);
    begins = λ number to dial is. tt;
    reaches_none = λ to. (tt, tt);
    goes = λ number link is. goes-mute link;
    logs = λ services. tt;
    renews_there = λ services link s requests is. renews-mute services link s requests;
    dials = λ daemon lossy held is of. tt;
    sends_later = λ daemon session operation seq of. (refl, tt);
    sends_there = λ daemon session operation seq link s callee cookie of is. sends-mute session operation seq link s callee cookie;
    restarts = (refl, tt);
  }

pub client-mute : (c : WholeClientNode) (input : Input) (reading : ℕ) (draw : List ℕ) → AllByRecursion (IsMute (me c.own)) (whole_client_rule c input reading draw).out.entries
client-mute c input reading draw = step-keeps c reading draw (EntersMute c reading draw) input (each-mute c reading draw input)
