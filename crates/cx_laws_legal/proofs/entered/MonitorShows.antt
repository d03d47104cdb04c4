-- What the monitor enters, whatever comes: no operation, and no refusal of a ticket.
use Rattle.std.proofs.Common.{ℕ, ◌+◌, ◌-◌, ◌^◌, ◌==◌, Bool, true, false, List, [], length, Option, Some, None, Result, Ok, Err}
use Rattle.std.specs.Prelude.{nat_le, if◌then◌else◌}
use Rattle.std.specs.List.{AllByRecursion}
use Rattle.cx_control.specs.Auth.{auth_request_layout, auth_request_more_layout, auth_signature_layout}
use Rattle.cx_control.specs.Hello.{hello_layout}
use Rattle.cx_frame.specs.declared.frame.Frame.{Frame}
use Rattle.cx_journal.specs.declared.faults.BytesFault.{BytesFault}
use Rattle.cx_journal.specs.declared.outcomes.Reason.TheVariants.{LinksFull}
use Rattle.cx_journal.specs.declared.outcomes.Reason.TheVariants as reason
use Rattle.cx_journal.specs.declared.faults.SessionFault.TheVariants.{Gap}
use Rattle.cx_laws_run.specs.cx_rules.specs.Messages.{message_in}
use Rattle.cx_laws_run.specs.cx_rules.specs.Acceptor.{AwaitsBanner, AwaitsHello, AwaitsRequest, AwaitsProof, AwaitsSignature, AwaitsIdent, Open, on_auth_request, on_banner, on_hello, on_signature}
use Rattle.cx_laws_run.specs.cx_rules.specs.Fronts.{banner_next, plain_next, secure_next}
use Rattle.cx_laws_run.specs.cx_rules.specs.Greetings.{own_banner}
use Rattle.cx_laws_run.specs.cx_rules.specs.Inputs.{Input, Opened, NoLink, Bytes, Turn, Gone, Look, Tick, Submit, Restart}
use Rattle.cx_laws_run.specs.cx_rules.specs.Links.{Link, link_of}
use Rattle.cx_laws_run.specs.cx_rules.specs.Monitor.{Monitor, MonitorArrival, MonitorNode, MonitorStage}
use Rattle.cx_laws_run.specs.cx_rules.specs.MonitorRule.{on_auth_request_more, on_ident, on_request_payload, monitor_rule, monitor_step, noted, opens, turn, turned_at}
use Rattle.cx_laws_run.specs.cx_rules.specs.Payloads.{due, payload}
use Rattle.cx_laws_run.specs.cx_rules.specs.Rows.{Outcome, Turned, Waits, Refuses, Handles, arrival, at, fed, goes_on, new_link, refuses, turns, with_opened}
use Rattle.cx_laws_run.specs.cx_rules.specs.Secured.{SealedFrame, Secured, under}
use Rattle.cx_laws_run.specs.cx_run.proofs.Taking.{EachRow, each-turned}
use Rattle.cx_base.specs.declared.kinds.EntityType.TheVariants.{Mon}
use Rattle.cx_laws_run.specs.cx_rules.specs.declared.responses.Bearer.{Bearer}
use Rattle.cx_laws_run.specs.cx_rules.specs.MonitorRequests.{demand_of, heard, ordered, on_demand, on_message, on_open, responds, sends_reply, request_occasion, serving}
use Rattle.cx_laws_run.specs.cx_rules.specs.declared.responses.Demand.{Demand}
use Rattle.cx_laws_run.specs.cx_rules.specs.declared.responses.ReplyMade.{ReplyMade}
use Rattle.cx_laws_run.specs.cx_rules.specs.declared.responses.Response.{Response}
use Rattle.cx_laws_run.specs.cx_rules.specs.declared.responses.Response.TheVariants as response
use Rattle.cx_journal.specs.declared.outcomes.Reason.{Reason}
use Rattle.cx_laws_run.specs.cx_rules.specs.Replies.{Responded, answers}
use Rattle.cx_base.specs.declared.nodes.NodeName.TheVariants as node
use Rattle.cx_control.specs.Upkeep.{keepalive2_layout, keepalive2_ack_layout}
use Rattle.cx_control.specs.declared.upkeep.Keepalive2.{Keepalive2}
use Rattle.cx_control.specs.declared.upkeep.Keepalive2Ack.{Keepalive2Ack}
use Rattle.cx_words.specs.declared.choices.LeftState.{LeftState}
use Rattle.cx_rotate.specs.declared.states.KeptState.{KeptState}
use Rattle.cx_laws_run.specs.cx_rules.specs.Upkeep.{on_keepalive, on_keepalive_ack}
use Rattle.cx_laws_run.specs.cx_run.specs.Happenings.{Nodes, monitor_steps}
use Rattle.cx_laws_keys.proofs.keys.Journal.{IsOfLogin}
use Rattle.cx_laws_keys.proofs.keys.Lists.{all-map}
use Rattle.cx_laws_legal.proofs.entered.MonitorHands.{ResponseIsPlain, answers-plain}
use Rattle.cx_laws_legal.proofs.entered.MonitorLogsIn.{hello-plain, ident-plain, request-plain, request_more-plain, secure_sent-plain, sent-plain, signature-plain}
use Rattle.cx_laws_legal.proofs.entered.Shown.{IsPlain, RowIsPlain, Shows, plain-shows}

-- ---- requests

reply-plain : (a : MonitorArrival) (s : Secured) (bearer : Bearer) (seq : ℕ) (made : ReplyMade) (sealing : Result SealedFrame BytesFault) → AllByRecursion IsPlain made.entries
    → RowIsPlain (sends_reply Open a s bearer seq made sealing)
reply-plain a s bearer seq made (Err why) plain = (tt, tt)
reply-plain a s bearer seq made (Ok sent) plain = plain

responds-plain : (a : MonitorArrival) (s : Secured) (bearer : Bearer) (demand : Demand) (r : Response) → ResponseIsPlain r → RowIsPlain (responds Open a s bearer demand r)
responds-plain a s bearer demand (response.Refuses why drawn) plain = (plain, tt)
responds-plain a s bearer demand (response.Replies made) plain = reply-plain a s bearer demand.seq made _ plain

abbrev FaultIsNone : Result Demand Reason → Type 0
FaultIsNone (Ok demand) = Unit {0}
FaultIsNone (Err why) = IsOfLogin why

heard-plain : (last : ℕ) (read : Result Demand BytesFault) → FaultIsNone (ordered last read)
heard-plain last (Err why) = tt
heard-plain last (Ok demand) = by_tests (last == 2 ^ 64 - 1) (demand.seq == last + 1)
  where
    by_tests : (spent next : Bool) → FaultIsNone (if spent then Err reason.Spent else if next then Ok demand else Err (reason.Session (Gap (last + 1))))
    by_tests true next = tt
    by_tests false true = tt
    by_tests false false = tt

demand-plain : (a : MonitorArrival) (s : Secured) (bearer : Bearer) (found : Result Demand Reason) → FaultIsNone found → RowIsPlain (on_demand Open a s bearer found)
demand-plain a s bearer (Err why) plain = (plain, tt)
demand-plain a s bearer (Ok demand) plain =
    let r : Responded = answers (request_occasion a) a.own.server bearer demand.request in
    responds-plain (serving a r.server) s bearer demand r.response (answers-plain (request_occasion a) a.own.server bearer demand.request)

keepalive-plain : (a : MonitorArrival) (s : Secured) (bearer : Bearer) (read : Result Keepalive2 BytesFault) → RowIsPlain (on_keepalive a s (λ behind. Open behind bearer) read)
keepalive-plain a s bearer (Err why) = (tt, tt)
keepalive-plain a s bearer (Ok keepalive) = secure_sent-plain a s (λ behind. Open behind bearer) [] _

keepalive_ack-plain : (a : MonitorArrival) (s : Secured) (bearer : Bearer) (read : Result Keepalive2Ack BytesFault) → RowIsPlain (on_keepalive_ack a s (λ behind. Open behind bearer) read)
keepalive_ack-plain a s bearer (Err why) = (tt, tt)
keepalive_ack-plain a s bearer (Ok ack) = tt

open-plain : (a : MonitorArrival) (s : Secured) (bearer : Bearer) (f : Frame) → RowIsPlain (on_open Open a s bearer f)
open-plain a s bearer f = by_tests (f.tag == 18) (f.tag == 19)
  where
    by_tests : (ask ack : Bool) → RowIsPlain (if ask then on_keepalive a s (λ behind. Open behind bearer) (payload keepalive2_layout.form f)
        else if ack then on_keepalive_ack a s (λ behind. Open behind bearer) (payload keepalive2_ack_layout.form f) else on_message Open a s bearer f)
    by_tests true ack = keepalive-plain a s bearer (payload keepalive2_layout.form f)
    by_tests false true = keepalive_ack-plain a s bearer (payload keepalive2_ack_layout.form f)
    by_tests false false = demand-plain a s bearer (heard bearer f) (heard-plain bearer.last (demand_of (message_in f)))

-- ---- a turn

monitor-turned : (a : MonitorArrival) (stage : MonitorStage) → EachRow RowIsPlain (turned_at a stage)
monitor-turned a AwaitsBanner = each-turned RowIsPlain (λ link _. on_banner Mon (at a link)) (λ l opened. sent-plain (at a l) AwaitsHello [] _) (banner_next a.link)
monitor-turned a AwaitsHello =
    each-turned RowIsPlain (λ (link, f) _. on_hello (at a link) (due 1 hello_layout.form f)) (λ (link, f) opened. hello-plain (at a link) (due 1 hello_layout.form f)) (plain_next a.link)
monitor-turned a AwaitsRequest =
    each-turned RowIsPlain (λ (link, f) _. on_auth_request on_request_payload (at a link) (due 2 auth_request_layout.form f))
    (λ (link, f) opened. request-plain (at a link) (due 2 auth_request_layout.form f)) (plain_next a.link)
monitor-turned a (AwaitsProof offered) =
    each-turned RowIsPlain (λ (link, f) _. on_auth_request_more (at a link) offered (due 5 auth_request_more_layout.form f))
    (λ (link, f) opened. request_more-plain (at a link) offered (due 5 auth_request_more_layout.form f)) (plain_next a.link)
monitor-turned a (AwaitsSignature s bearer) =
    each-turned RowIsPlain (λ (link, f, keys) opened. with_opened opened (on_signature (at a link) (under s keys) bearer (due 7 auth_signature_layout.form f)))
    (λ (link, f, keys) opened. signature-plain (at a link) (under s keys) bearer (due 7 auth_signature_layout.form f)) (secure_next s.keys a.link)
monitor-turned a (AwaitsIdent s bearer) =
    each-turned RowIsPlain (λ (link, f, keys) opened. with_opened opened (on_ident (at a link) (under s keys) bearer f))
    (λ (link, f, keys) opened. ident-plain (at a link) (under s keys) bearer f) (secure_next s.keys a.link)
monitor-turned a (Open s bearer) =
    each-turned RowIsPlain (λ (link, f, keys) opened. with_opened opened (on_open Open (at a link) (under s keys) bearer f))
    (λ (link, f, keys) opened. open-plain (at a link) (under s keys) bearer f) (secure_next s.keys a.link)

-- ---- a step

module _ (m : MonitorNode) where
  abbrev IsStill : Outcome MonitorNode → Type 0
  IsStill o = AllByRecursion IsPlain o.out.entries

  turn-plain : (reading : ℕ) (draw : List ℕ) (found : Option (Link MonitorStage)) → IsStill (turn m reading draw found)
  turn-plain reading draw None = tt
  turn-plain reading draw (Some link) = by_turned (turned_at a link.stage) (monitor-turned a link.stage)
    where
      a : MonitorArrival
      a = arrival node.Monitor m.own link reading draw

      by_turned : (t : Turned Monitor MonitorStage) → EachRow RowIsPlain t → IsStill (turns m (arrival node.Monitor m.own link reading draw) t)
      by_turned Waits h = tt
      by_turned (Refuses why opened) h = (tt, tt)
      by_turned (Handles row) h = h

  begins-plain : (reading : ℕ) (draw : List ℕ) (link : Link MonitorStage) → IsStill (opens m reading draw link)
  begins-plain reading draw link = by_test (nat_le 1024 (length m.links))
    where
      by_test : (full : Bool) → RowIsPlain (if full then refuses (arrival node.Monitor m.own link reading draw) LinksFull [] else goes_on (arrival node.Monitor m.own link reading draw) AwaitsBanner own_banner [])
      by_test true = (tt, tt)
      by_test false = tt

  bytes-plain : (bytes : List ℕ) (found : Option (Link MonitorStage)) → IsStill (fed m bytes found)
  bytes-plain bytes None = tt
  bytes-plain bytes (Some link) = tt

  step-plain : (input : Input) (reading : ℕ) (draw : List ℕ) → IsStill (monitor_step m input reading draw)
  step-plain (Opened number to) reading draw = begins-plain reading draw (new_link number AwaitsBanner)
  step-plain (NoLink to) reading draw = (tt, tt)
  step-plain (Bytes number bytes) reading draw = bytes-plain bytes (link_of number m.links)
  step-plain (Turn number) reading draw = turn-plain reading draw (link_of number m.links)
  step-plain (Gone number) reading draw = tt
  step-plain (Submit said) reading draw = tt
  step-plain Tick reading draw = tt
  step-plain (Look view) reading draw = tt
  step-plain Restart reading draw = (tt, tt)

-- also where its save fails
pub monitor-shows : (nodes : Nodes) (input : Input) (reading : ℕ) (draw : List ℕ) (l : Option LeftState) →
    let o = monitor_rule nodes.monitor input reading draw in AllByRecursion Shows (monitor_steps nodes o l o.out.save).out.entries
monitor-shows nodes input reading draw l =
    let o : Outcome MonitorNode = monitor_rule nodes.monitor input reading draw in
    all-map IsPlain Shows plain-shows (monitor_steps nodes o l o.out.save).out.entries (by_save o l o.out.save (step-plain (noted nodes.monitor) input reading draw))
  where
    by_save : (o : Outcome MonitorNode) (l : Option LeftState) (saved : Option KeptState) → AllByRecursion IsPlain o.out.entries → AllByRecursion IsPlain (monitor_steps nodes o l saved).out.entries
    by_save o (Some l) (Some saved) h = tt
    by_save o None saved h = h
    by_save o (Some l) None h = h
