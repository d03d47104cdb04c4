-- What a client with links to daemons enters, whatever comes: no ticket is issued and no session admitted; and what it enters tells its view.
use Rattle.std.proofs.Common.{◌≡◌, ℕ, ◌==◌, ◌-◌, ◌^◌, ◌+◌, Bool, true, false, List, [], ◌∷◌, Some, Result, Ok, Err, refl, sym, ap, subst}
use Rattle.std.specs.Prelude.{if◌then◌else◌}
use Rattle.std.specs.List.{AllByRecursion}
use Rattle.cx_base.specs.Names.{Name}
use Rattle.cx_base.specs.declared.operations.Operation.{Operation}
use Rattle.cx_laws_keys.specs.cx_journal.specs.declared.entries.Entry.{Entry}
use Rattle.cx_laws_keys.specs.cx_journal.specs.declared.entries.Entry.TheVariants as journal
use Rattle.cx_laws_keys.specs.cx_journal.specs.declared.faults.BytesFault.{BytesFault}
use Rattle.cx_laws_keys.specs.cx_journal.specs.declared.outcomes.Reason.TheVariants as reason
use Rattle.cx_rotate.specs.declared.views.View.{View}
use Rattle.cx_laws_keys.specs.cx_rules.specs.Connector as connector
use Rattle.cx_laws_keys.specs.cx_rules.specs.Holdings.{MonClient}
use Rattle.cx_laws_keys.specs.cx_rules.specs.Inputs.{Input}
use Rattle.cx_laws_keys.specs.cx_rules.specs.Links.{Link}
use Rattle.cx_laws_keys.specs.cx_rules.specs.Requests.{Requests, request_message, sends_request, unless_unsealed}
use Rattle.cx_laws_keys.specs.cx_rules.specs.Rows.{Outcome, Turned, Waits, Refuses, Handles, arrival, carried_out, lifted, refused_entry, secure_sent, turns}
use Rattle.cx_laws_keys.specs.cx_rules.specs.Secured.{SealedFrame, Secured, secure_frame}
use Rattle.cx_laws_keys.specs.cx_rules.specs.declared.requests.Want.TheVariants as want
use Rattle.cx_run.specs.cx_rules_session.specs.ClientRule.{ClientStage, ToMonitor, ToDaemon, WholeClientNode, caller_to, having_session, is_open, loses, me, open_to_ask, own_behind_gone, sent_entry, whole_client_rule, with_mon_client, with_caller}
use Rattle.cx_run.specs.cx_rules_session.specs.Kinds.{arrival_in, entered_before, turn_of_kind}
use Rattle.cx_run.specs.cx_rules_session.specs.Presenter as call
use Rattle.cx_run.specs.cx_rules_session.specs.Presenter.{CallStage, Caller, callee_of}
use Rattle.cx_run.specs.cx_rules_session.specs.Sessions.{Callee, HeldSession, operation_message}
use Rattle.cx_session.specs.Queue.{pushed}
use Rattle.cx_laws_keys.specs.cx_wire.specs.declared.bodies.Request.TheVariants as asked
use Rattle.cx_run.proofs.Taking.{EachRow}
use Rattle.cx_run.proofs.CallKeeps.{IsCallEntry, Leaves, call-takes}
use Rattle.cx_run.proofs.Outcomes.{EachOutcome, mon_client_turn, call_turn, on_link, renewed, sent_in, step-keeps}
use Rattle.cx_laws_keys.proofs.keys.Journal.{IsNotIssued, IsOfLogin}
use Rattle.cx_laws_keys.proofs.keys.Lists.{all-map}
use Rattle.cx_laws_keys.proofs.keys.Viewing.{ShowsAlong, ShowsStill, still-along, viewed-own}
use Rattle.cx_laws_keys.specs.keys.LooksLast.{nothing_viewed}
use Rattle.cx_laws_keys.proofs.login.NoTickets.{IsOfMonClient, RowOfMonClient, none-turned}
use Rattle.cx_laws_keys.proofs.login.Proving.{RowOf}
use Rattle.cx_laws_tickets.proofs.calling.ClientAfter.{of-login}

-- it refuses something, which is no ticket; it was told generations; it begins anew; or it sent an operation, or had an answer to one
abbrev pub IsOfClient : Name → Entry → Type 0
IsOfClient name (journal.Refused r) = IsOfLogin r.reason
IsOfClient name (journal.Fetched f) = Unit {0}
IsOfClient name (journal.Restarted at) = Unit {0}
IsOfClient name (journal.Sent x) = x.client ≡ name
IsOfClient name (journal.Answered x) = x.client ≡ name
IsOfClient name _ = ⊥

mon_client-of_client : (name : Name) (e : Entry) → IsOfMonClient e → IsOfClient name e
mon_client-of_client name (journal.Refused r) h = h
mon_client-of_client name (journal.Fetched f) h = tt
mon_client-of_client name (journal.Restarted at) h = tt
mon_client-of_client name (journal.Saved x) h = absurd h
mon_client-of_client name (journal.Issued x) h = absurd h
mon_client-of_client name (journal.Looked x) h = absurd h
mon_client-of_client name (journal.Admitted x) h = absurd h
mon_client-of_client name (journal.Resumed x) h = absurd h
mon_client-of_client name (journal.Sent x) h = absurd h
mon_client-of_client name (journal.Handled x) h = absurd h
mon_client-of_client name (journal.Answered x) h = absurd h
mon_client-of_client name (journal.Ended x) h = absurd h
mon_client-of_client name (journal.Broken x) h = absurd h
mon_client-of_client name (journal.Leaked x) h = absurd h

call-of_client : (mon_client : MonClient) (e : Entry) → IsCallEntry mon_client e → IsOfClient mon_client.name e
call-of_client mon_client (journal.Refused r) h = of-login r.reason h
call-of_client mon_client (journal.Answered x) h = h
call-of_client mon_client (journal.Saved x) h = absurd h
call-of_client mon_client (journal.Issued x) h = absurd h
call-of_client mon_client (journal.Fetched x) h = absurd h
call-of_client mon_client (journal.Looked x) h = absurd h
call-of_client mon_client (journal.Admitted x) h = absurd h
call-of_client mon_client (journal.Resumed x) h = absurd h
call-of_client mon_client (journal.Sent x) h = absurd h
call-of_client mon_client (journal.Handled x) h = absurd h
call-of_client mon_client (journal.Ended x) h = absurd h
call-of_client mon_client (journal.Restarted x) h = absurd h
call-of_client mon_client (journal.Broken x) h = absurd h
call-of_client mon_client (journal.Leaked x) h = absurd h

-- it tells no view
call-still : (mon_client : MonClient) (e : Entry) → IsCallEntry mon_client e → ShowsStill mon_client.name mon_client.view e
call-still mon_client (journal.Refused r) h = tt
call-still mon_client (journal.Answered x) h = tt
call-still mon_client (journal.Saved x) h = absurd h
call-still mon_client (journal.Issued x) h = absurd h
call-still mon_client (journal.Fetched x) h = absurd h
call-still mon_client (journal.Looked x) h = absurd h
call-still mon_client (journal.Admitted x) h = absurd h
call-still mon_client (journal.Resumed x) h = absurd h
call-still mon_client (journal.Sent x) h = absurd h
call-still mon_client (journal.Handled x) h = absurd h
call-still mon_client (journal.Ended x) h = absurd h
call-still mon_client (journal.Restarted x) h = absurd h
call-still mon_client (journal.Broken x) h = absurd h
call-still mon_client (journal.Leaked x) h = absurd h

client-not_issued : (name : Name) (e : Entry) → IsOfClient name e → IsNotIssued e
client-not_issued name (journal.Issued x) h = h
client-not_issued name (journal.Refused r) h = tt
client-not_issued name (journal.Fetched f) h = tt
client-not_issued name (journal.Restarted at) h = tt
client-not_issued name (journal.Saved x) h = tt
client-not_issued name (journal.Looked x) h = tt
client-not_issued name (journal.Admitted x) h = tt
client-not_issued name (journal.Resumed x) h = tt
client-not_issued name (journal.Sent x) h = tt
client-not_issued name (journal.Handled x) h = tt
client-not_issued name (journal.Answered x) h = tt
client-not_issued name (journal.Ended x) h = tt
client-not_issued name (journal.Broken x) h = tt
client-not_issued name (journal.Leaked x) h = tt

-- of a step: what it enters, and that this tells its view
pub record StepOfClient (mon_client : MonClient) (o : Outcome WholeClientNode) : Type 0 where
  pub enters : AllByRecursion (IsOfClient mon_client.name) o.out.entries
  pub shows : ShowsAlong mon_client.name mon_client.view o.out.entries o.state.own.mon_client.view

module _ (c : WholeClientNode) (reading : ℕ) (draw : List ℕ) where
  abbrev Enters : Outcome WholeClientNode → Type 0
  Enters o = StepOfClient c.own.mon_client o

  asks-enters : (link : Link ClientStage) (stage : connector.Stage) → Enters (mon_client_turn c reading draw link stage)
  asks-enters link stage =
      by_turned (connector.turned_at (arrival_in (on_link c reading draw link) c.own.mon_client stage) stage) (none-turned (arrival_in (on_link c reading draw link) c.own.mon_client stage) stage)
    where
      by_turned : (t : Turned MonClient connector.Stage) → RowOf (RowOfMonClient c.own.mon_client) t → Enters (turns c (on_link c reading draw link) (turn_of_kind (with_mon_client c.own) ToMonitor t))
      by_turned Waits h = record { enters = tt; shows = refl }
      by_turned (Refuses why opened) h = record { enters = (tt, tt); shows = (tt, refl) }
      by_turned (Handles row) h = record { enters = all-map IsOfMonClient (IsOfClient c.own.mon_client.name) (mon_client-of_client c.own.mon_client.name) row.entries h.enters; shows = h.shows }

  presents-enters : (link : Link ClientStage) (stage : CallStage) → Enters (call_turn c reading draw link stage)
  presents-enters link stage =
      let daemon : Name = (callee_of stage).daemon in
      by_turned daemon (call.turned_at (arrival_in (on_link c reading draw link) (caller_to daemon c.own) stage) stage)
      (call-takes (arrival_in (on_link c reading draw link) (caller_to daemon c.own) stage) stage).leaves
    where
      by_turned : (daemon : Name) (t : Turned Caller CallStage) → EachRow (Leaves c.own.mon_client) t → Enters (turns c (on_link c reading draw link) (turn_of_kind (with_caller daemon c.own) ToDaemon t))
      by_turned daemon Waits h = record { enters = tt; shows = refl }
      by_turned daemon (Refuses why opened) h = record { enters = (tt, tt); shows = (tt, refl) }
      by_turned daemon (Handles row) h = record {
        enters = all-map (IsCallEntry c.own.mon_client) (IsOfClient c.own.mon_client.name) (call-of_client c.own.mon_client) row.entries h.enters;
        shows = subst (λ (view : View). ShowsAlong c.own.mon_client.name c.own.mon_client.view row.entries view) (sym (ap (λ (a : MonClient). a.view) h.still.1))
            (still-along c.own.mon_client.name c.own.mon_client.view row.entries
            (all-map (IsCallEntry c.own.mon_client) (ShowsStill c.own.mon_client.name c.own.mon_client.view) (call-still c.own.mon_client) row.entries h.enters));
      }

  goes-enters : (link : Link ClientStage) → Enters (loses c (Some link))
  goes-enters link = record { enters = by_test (is_open link.stage); shows = by_kind link.stage (is_open link.stage) }
    where
      by_test : (t : Bool) → AllByRecursion (IsOfClient c.own.mon_client.name) (if t then [] else refused_entry (me c.own) link.number reason.Lost ∷ [])
      by_test true = tt
      by_test false = (tt, tt)

      by_kind : (stage : ClientStage) (t : Bool)
          → ShowsAlong c.own.mon_client.name c.own.mon_client.view (if t then [] else refused_entry (me c.own) link.number reason.Lost ∷ []) (own_behind_gone c.own stage).mon_client.view
      by_kind (ToMonitor stage) true = refl
      by_kind (ToMonitor stage) false = (tt, refl)
      by_kind (ToDaemon stage) true = refl
      by_kind (ToDaemon stage) false = (tt, refl)

  renews-enters : (services : ℕ) (link : Link ClientStage) (s : Secured) (requests : Requests) → Enters (renewed c reading draw services link s requests)
  renews-enters services link s requests = by_count (requests.count == 2 ^ 64 - 1)
    where
      by_sent : (made : Result SealedFrame BytesFault) → Enters (carried_out c link.number false
          (lifted (with_mon_client c.own) (sends_request open_to_ask (arrival (me c.own) c.own.mon_client link reading draw) s requests want.Tickets (unless_unsealed made))))
      by_sent (Ok sealed) = record { enters = tt; shows = refl }
      by_sent (Err why) = record { enters = (tt, tt); shows = (tt, refl) }

      by_count : (spent : Bool) → Enters (carried_out c link.number false
          (lifted (with_mon_client c.own) (sends_request open_to_ask (arrival (me c.own) c.own.mon_client link reading draw) s requests want.Tickets
          (if spent then Err reason.Spent else unless_unsealed (secure_frame s.keys (request_message (requests.count + 1) (asked.Tickets services)))))))
      by_count true = record { enters = (tt, tt); shows = (tt, refl) }
      by_count false = by_sent (secure_frame s.keys (request_message (requests.count + 1) (asked.Tickets services)))

  sends-enters : (session : HeldSession) (operation : Operation) (seq : ℕ) (link : Link ClientStage) (s : Secured) (callee : Callee) (cookie : ℕ)
      → Enters (sent_in c reading draw session operation seq (Some (link, (s, (callee, cookie)))))
  sends-enters session operation seq link s callee cookie = by_sent (secure_frame s.keys (operation_message (seq, operation)))
    where
      by_sent : (made : Result SealedFrame BytesFault) →
          let m : WholeClientNode = having_session c (record session { queue = pushed session.queue operation }) in
          Enters (carried_out m link.number false (entered_before (sent_entry c.own session seq operation)
          (secure_sent (arrival (me m.own) m.own link reading draw) s (λ behind. ToDaemon (call.Open behind callee cookie)) [] made)))
      by_sent (Ok sealed) = record { enters = (refl, tt); shows = (tt, refl) }
      by_sent (Err why) = record { enters = (refl, (tt, tt)); shows = (tt, (tt, refl)) }

  each-enters : (input : Input) → EachOutcome c reading draw input Enters
  each-enters input = record {
    idle = record { enters = tt; shows = refl };
    comes = λ number link bytes is. record { enters = tt; shows = refl };
    asks = λ number link stage is of. asks-enters link stage;
    presents = λ number link stage is of. presents-enters link stage;
    refuses = λ why told. record { enters = (of-login why told, tt); shows = (tt, refl) };
    begins = λ number to dial is. record { enters = tt; shows = refl };
    reaches_none = λ to. record { enters = (tt, tt); shows = (tt, refl) };
    goes = λ number link is. goes-enters link;
    logs = λ services. record { enters = tt; shows = refl };
    renews_there = λ services link s requests is. renews-enters services link s requests;
    dials = λ daemon lossy held is of. record { enters = tt; shows = refl };
    sends_later = λ daemon session operation seq of. record { enters = (refl, tt); shows = (tt, refl) };
    sends_there = λ daemon session operation seq link s callee cookie of is. sends-enters session operation seq link s callee cookie;
    restarts = record { enters = (tt, tt); shows = (refl, viewed-own c.own.mon_client.name c.own.mon_client.view nothing_viewed) };
  }

pub whole-enters : (c : WholeClientNode) (input : Input) (reading : ℕ) (draw : List ℕ) → StepOfClient c.own.mon_client (whole_client_rule c input reading draw)
whole-enters c input reading draw = step-keeps c reading draw (StepOfClient c.own.mon_client) input (each-enters c reading draw input)

pub whole-none : (c : WholeClientNode) (input : Input) (reading : ℕ) (draw : List ℕ) → AllByRecursion IsNotIssued (whole_client_rule c input reading draw).out.entries
whole-none c input reading draw =
    all-map (IsOfClient c.own.mon_client.name) IsNotIssued (client-not_issued c.own.mon_client.name) (whole_client_rule c input reading draw).out.entries (whole-enters c input reading draw).enters
