-- What the monitor has behind a message on an open link: the key server behind its rotation, whatever comes of the request.
use Rattle.std.proofs.Common.{◌≡◌, ◌==◌, ℕ, Bool, true, false, List, Option, Some, None, Result, Ok, Err, refl, sym, ◌∙◌, subst, arith, eqb-true}
use Rattle.std.specs.Prelude.{if◌then◌else◌}
use Rattle.cx_control.specs.Upkeep.{keepalive2_ack_layout, keepalive2_layout}
use Rattle.cx_enc.specs.declared.keys.Key.{Key}
use Rattle.cx_frame.specs.declared.frame.Frame.{Frame}
use Rattle.cx_journal.specs.declared.faults.BytesFault.{BytesFault}
use Rattle.cx_journal.specs.declared.faults.LoginFault.{LoginFault}
use Rattle.cx_journal.specs.declared.outcomes.Reason.{Reason}
use Rattle.cx_laws_run.specs.cx_keyserver.specs.Servers.{Server, rotated_server, secrets_of}
use Rattle.cx_laws_run.specs.cx_keyserver.specs.declared.refusals.NotADaemon.{NotADaemon}
use Rattle.cx_laws_run.specs.cx_keyserver.specs.declared.tickets.Ticket.{Ticket}
use Rattle.cx_rotate.specs.declared.generations.Generation.{Generation}
use Rattle.cx_laws_run.specs.cx_rules.specs.Acceptor.{Open}
use Rattle.cx_laws_run.specs.cx_rules.specs.Monitor.{MonitorArrival, MonitorRow}
use Rattle.cx_laws_run.specs.cx_rules.specs.MonitorRequests.{heard, on_demand, on_message, on_open, reply_message, request_occasion, responds, row_responding, sends_reply, serving}
use Rattle.cx_laws_run.specs.cx_rules.specs.Payloads.{payload}
use Rattle.cx_laws_run.specs.cx_rules.specs.Replies.{Responded, answers, answers_by, asking_of, issues_tickets, others_for, tells_generations, tells_tickets}
use Rattle.cx_laws_run.specs.cx_rules.specs.Secured.{SealedFrame, Secured, secure_frame}
use Rattle.cx_laws_run.specs.cx_rules.specs.Tickets.{issued_for, rotation_drawn}
use Rattle.cx_laws_run.specs.cx_rules.specs.Upkeep.{on_keepalive, on_keepalive_ack}
use Rattle.cx_laws_run.specs.cx_rules.specs.Verdicts.{Occasion, key_of}
use Rattle.cx_laws_run.specs.cx_rules.specs.declared.responses.Bearer.{Bearer}
use Rattle.cx_laws_run.specs.cx_rules.specs.declared.responses.Demand.{Demand}
use Rattle.cx_laws_run.specs.cx_rules.specs.declared.responses.ReplyMade.{ReplyMade}
use Rattle.cx_laws_run.specs.cx_rules.specs.declared.responses.Response.{Response}
use Rattle.cx_laws_run.specs.cx_rules.specs.declared.responses.Response.TheVariants as response
use Rattle.cx_steps.specs.declared.seals.SealEntry.{SealEntry}
use Rattle.cx_laws_run.specs.cx_wire.specs.declared.bodies.Request.{Request}
use Rattle.cx_laws_run.specs.cx_wire.specs.declared.bodies.Request.TheVariants as asked
use Rattle.cx_laws_run.specs.cx_laws_tickets.proofs.fetch.RepliedMoments.{message-tag}

-- ---- what is answered

module _ (at : Occasion) (server : Server) (bearer : Bearer) (drawn : List SealEntry) where
  tickets-server : (own : List ℕ) (r : Result (List Ticket) LoginFault) → (tells_tickets at server bearer drawn own r).server ≡ server
  tickets-server own (Err why) = refl
  tickets-server own (Ok tickets) = refl

  issues-server : (keys : ℕ) (own : Option Key) → (issues_tickets at server bearer drawn keys own).server ≡ server
  issues-server keys None = refl
  issues-server keys (Some own) = tickets-server own.secret (issued_for server (asking_of at bearer) (others_for keys))

  generations-server : (own : Option Key) (gens : Result (List Generation) NotADaemon) → (tells_generations at server bearer drawn own gens).server ≡ server
  generations-server (Some own) (Ok gs) = refl
  generations-server (Some own) (Err why) = refl
  generations-server None (Ok gs) = refl
  generations-server None (Err why) = refl

  answers-server : (request : Option Request) → (answers_by at server bearer drawn request).server ≡ server
  answers-server (Some (asked.Tickets keys)) = issues-server keys (key_of server bearer.name)
  answers-server (Some asked.Rotating) = generations-server (key_of server bearer.name) (secrets_of server bearer.name)
  answers-server None = refl

-- ---- the row

module _ (a : MonitorArrival) (s : Secured) (bearer : Bearer) where
  reply-own : (server : Server) (seq : ℕ) (made : ReplyMade) (r : Result SealedFrame BytesFault) → (sends_reply Open (serving a server) s bearer seq made r).own.server ≡ server
  reply-own server seq made (Ok sent) = refl
  reply-own server seq made (Err why) = refl

  responds-own : (server : Server) (demand : Demand) (r : Response) → (responds Open (serving a server) s bearer demand r).own.server ≡ server
  responds-own server demand (response.Refuses why drawn) = refl
  responds-own server demand (response.Replies made) = reply-own server demand.seq made (secure_frame s.keys (reply_message demand.tid made.body))

  -- behind a message that is heard
  pub open-own : (f : Frame) (demand : Demand) → heard bearer f ≡ Ok demand → (on_open Open a s bearer f).own.server ≡ rotated_server a.reading a.draw a.own.server
  open-own f demand heard_as = by_tests (f.tag == 18) (f.tag == 19) refl refl
    where
      rotated : Server
      rotated = rotated_server a.reading a.draw a.own.server

      responded_own : (row_responding Open a s bearer demand (answers (request_occasion a) a.own.server bearer demand.request)).own.server ≡ rotated
      responded_own =
          let r : Responded = answers (request_occasion a) a.own.server bearer demand.request in
          responds-own r.server demand r.response
          ∙ answers-server (request_occasion a) rotated bearer (rotation_drawn a.reading a.draw a.own.server.state) demand.request

      told : (on_message Open a s bearer f).own.server ≡ rotated
      told = subst (λ (r : Result Demand Reason). (on_demand Open a s bearer r).own.server ≡ rotated) (sym heard_as) responded_own

      by_tests : (ask ack : Bool) → (f.tag == 18) ≡ ask → (f.tag == 19) ≡ ack
          → (let row : MonitorRow = (if ask then on_keepalive a s (λ t. Open t bearer) (payload keepalive2_layout.form f)
          else if ack then on_keepalive_ack a s (λ t. Open t bearer) (payload keepalive2_ack_layout.form f) else on_message Open a s bearer f) in row.own.server ≡ rotated)
      by_tests true ack is other = let one : f.tag ≡ 18 = eqb-true f.tag 18 is in let message : f.tag ≡ 17 = message-tag bearer f demand heard_as in absurd (omega arith)
      by_tests false true is other = let one : f.tag ≡ 19 = eqb-true f.tag 19 other in let message : f.tag ≡ 17 = message-tag bearer f demand heard_as in absurd (omega arith)
      by_tests false false is other = told
