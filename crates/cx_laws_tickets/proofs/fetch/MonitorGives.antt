-- What the monitor says on an open link: at most one word, a KEEPALIVE2_ACK or the reply to the request in the frame that it read, under the number of that
-- request; and to a request for generations alone it replies by generations.
use Rattle.std.proofs.Common.{◌≡◌, ◌==◌, ℕ, Bool, true, false, List, [], ◌∷◌, ◌++◌, map, take, Option, Some, None, Result, Ok, Err, inr, refl, sym, ap, subst, append_assoc}
use Rattle.std.specs.Prelude.{if◌then◌else◌}
use Rattle.std.specs.List.{flat_map}
use Rattle.cx_base.specs.Names.{Name}
use Rattle.cx_base.specs.declared.kinds.EntityType.{EntityType}
use Rattle.cx_base.specs.declared.kinds.EntityType.TheVariants.{Mds, Osd, Mgr, Auth}
use Rattle.cx_cbc.specs.Envelope.{sealed as enveloped}
use Rattle.cx_control.specs.Upkeep.{keepalive2_ack_layout, keepalive2_layout}
use Rattle.cx_control.specs.declared.upkeep.Keepalive2.{Keepalive2}
use Rattle.cx_control.specs.declared.upkeep.Keepalive2Ack.{Keepalive2Ack}
use Rattle.cx_dice.specs.Draws.{rotation_of}
use Rattle.cx_enc.specs.declared.keys.Key.{Key}
use Rattle.cx_frame.specs.declared.frame.Frame.{Frame}
use Rattle.cx_journal.specs.declared.faults.BytesFault.{BytesFault}
use Rattle.cx_journal.specs.declared.faults.LoginFault.{LoginFault}
use Rattle.cx_journal.specs.declared.outcomes.Reason.{Reason}
use Rattle.cx_journal.specs.declared.outcomes.Reason.TheVariants.{Bytes}
use Rattle.cx_laws_tickets.specs.cx_keyserver.specs.Servers.{Server, generations_of, life_of, rotated_server, secrets_of}
use Rattle.cx_laws_tickets.specs.cx_keyserver.specs.declared.refusals.NotADaemon.{NotADaemon}
use Rattle.cx_laws_tickets.specs.cx_keyserver.specs.declared.tickets.Ticket.{Ticket}
use Rattle.cx_rotate.specs.Rotation.{additions}
use Rattle.cx_rotate.specs.declared.generations.Generation.{Generation}
use Rattle.cx_rotate.specs.declared.states.KeptState.{KeptState}
use Rattle.cx_laws_keys.specs.cx_rules.specs.Acceptor.{Open}
use Rattle.cx_laws_keys.specs.cx_rules.specs.Links.{Link}
use Rattle.cx_laws_keys.specs.cx_rules.specs.Monitor.{MonitorArrival, MonitorRow, MonitorStage}
use Rattle.cx_laws_keys.specs.cx_rules.specs.MonitorRequests.{heard, on_demand, on_message, on_open, reply_message, request_occasion, responds, sends_reply, serving}
use Rattle.cx_laws_keys.specs.cx_rules.specs.Payloads.{payload}
use Rattle.cx_laws_keys.specs.cx_rules.specs.Replies.{Responded, answers, answers_by, asking_of, issues_tickets, on_rotating, on_tickets, others_for, tells_generations, tells_tickets, told_content}
use Rattle.cx_laws_keys.specs.cx_rules.specs.Secured.{SealedFrame, Secured, secure_frame}
use Rattle.cx_laws_keys.specs.cx_rules.specs.Tickets.{drawn_for, issued_for, rotation_drawn, ticket_part}
use Rattle.cx_laws_keys.specs.cx_rules.specs.Upkeep.{on_keepalive, on_keepalive_ack}
use Rattle.cx_laws_keys.specs.cx_rules.specs.Verdicts.{Occasion, key_of}
use Rattle.cx_laws_keys.specs.cx_rules.specs.declared.responses.Bearer.{Bearer}
use Rattle.cx_laws_keys.specs.cx_rules.specs.declared.responses.Demand.{Demand}
use Rattle.cx_laws_keys.specs.cx_rules.specs.declared.responses.ReplyMade.{ReplyMade}
use Rattle.cx_laws_keys.specs.cx_rules.specs.declared.responses.Response.{Response}
use Rattle.cx_laws_keys.specs.cx_rules.specs.declared.responses.Response.TheVariants as response
use Rattle.cx_steps.specs.declared.seals.DrawMark.TheVariants as draw
use Rattle.cx_steps.specs.declared.seals.SealEntry.{SealEntry}
use Rattle.cx_steps.specs.declared.seals.SealEntry.TheVariants as entry
use Rattle.cx_wire.specs.Bodies.{reply_layout}
use Rattle.cx_wire.specs.declared.bodies.Reply.{Reply}
use Rattle.cx_wire.specs.declared.bodies.Reply.TheVariants as given
use Rattle.cx_wire.specs.declared.bodies.Request.{Request}
use Rattle.cx_wire.specs.declared.bodies.Request.TheVariants as asked
use Rattle.cx_laws_tickets.proofs.fetch.AskedWords.{Given, Greets, Resets, Lacks, Replies, Confirms, given_frame}
use Rattle.cx_laws_tickets.proofs.fetch.RowWords.{AreQuiet, AreStill, RowSays, goes-says, quiet-still, refuses-says, secure-says}

-- ---- what a rotation draws

drawn-quiet : (keys : List (List ℕ)) → AreQuiet (map (λ (key : List ℕ). entry.Drawn (draw.Rotation key)) keys)
drawn-quiet [] = tt
drawn-quiet (key ∷ keys) = (tt, drawn-quiet keys)

quiet-append : (xs ys : List SealEntry) → AreQuiet xs → AreQuiet ys → AreQuiet (xs ++ ys)
quiet-append [] ys h g = g
quiet-append (x ∷ xs) ys h g = (h.0, quiet-append xs ys h.1 g)

pub rotation-quiet : (reading : ℕ) (block : List ℕ) (state : KeptState) → AreQuiet (rotation_drawn reading block state)
rotation-quiet reading block state = over (Mds ∷ Osd ∷ Mgr ∷ Auth ∷ [])
  where
    over : (services : List EntityType) → AreQuiet (flat_map (drawn_for reading block state) services)
    over [] = tt
    over (service ∷ services) =
        quiet-append (drawn_for reading block state service) (flat_map (drawn_for reading block state) services)
        (drawn-quiet (take (additions reading (life_of state service) (rotation_of service block) (generations_of state service)) (rotation_of service block))) (over services)

-- ---- a response

-- by generations it replies to a request for them alone: a daemon's, by what it is told under its own secret
abbrev pub IsToldBy : Server → Bearer → Option Request → Reply → Type 0
IsToldBy server bearer request (given.Tickets parts) = Unit {0}
IsToldBy server bearer request (given.Rotating blob) =
    (request ≡ Some asked.Rotating)
    × (own : Key) × (key_of server bearer.name ≡ Some own)
    × (generations : List Generation) × (secrets_of server bearer.name ≡ Ok generations)
    × (blob ≡ enveloped own.secret (told_content bearer.name.kind generations))

-- what is sealed of a reply, and what it says; what a rotation draws is drawn before it
pub record IsReply (server : Server) (bearer : Bearer) (drawn : List SealEntry) (request : Option Request) (made : ReplyMade) : Type 0 where
  pub reply : Reply
  pub body : made.body ≡ reply_layout.form.text reply
  pub drawn_is : made.seals ≡ drawn
  pub told : IsToldBy server bearer request reply

-- a refusal logs what was drawn
abbrev pub IsResponse : Server → Bearer → List SealEntry → Option Request → Response → Type 0
IsResponse server bearer drawn request (response.Refuses why seals) = seals ≡ drawn
IsResponse server bearer drawn request (response.Replies made) = IsReply server bearer drawn request made

module _ (at : Occasion) (server : Server) (bearer : Bearer) (drawn : List SealEntry) where
  tickets-response : (keys : ℕ) → IsResponse server bearer drawn (Some (asked.Tickets keys)) (on_tickets at server bearer drawn keys).response
  tickets-response keys = by_key (key_of server bearer.name)
    where
      by_tickets : (own : List ℕ) (r : Result (List Ticket) LoginFault) → IsResponse server bearer drawn (Some (asked.Tickets keys)) (tells_tickets at server bearer drawn own r).response
      by_tickets own (Err why) = refl
      by_tickets own (Ok tickets) = record { reply = given.Tickets (map ticket_part tickets); body = refl; drawn_is = refl; told = tt }

      by_key : (own : Option Key) → IsResponse server bearer drawn (Some (asked.Tickets keys)) (issues_tickets at server bearer drawn keys own).response
      by_key None = refl
      by_key (Some own) = by_tickets own.secret (issued_for server (asking_of at bearer) (others_for keys))

  rotating-response : IsResponse server bearer drawn (Some asked.Rotating) (on_rotating at server bearer drawn).response
  rotating-response = by_both (key_of server bearer.name) (secrets_of server bearer.name) refl refl
    where
      by_both : (key : Option Key) (gens : Result (List Generation) NotADaemon) → key_of server bearer.name ≡ key → secrets_of server bearer.name ≡ gens
          → IsResponse server bearer drawn (Some asked.Rotating) (tells_generations at server bearer drawn key gens).response
      by_both (Some own) (Ok gs) its are =
          record { reply = given.Rotating (enveloped own.secret (told_content bearer.name.kind gs)); body = refl; drawn_is = refl; told = (refl, own, its, gs, are, refl) }
      by_both (Some own) (Err why) its are = refl
      by_both None (Ok gs) its are = refl
      by_both None (Err why) its are = refl

  pub response-is : (request : Option Request) → IsResponse server bearer drawn request (answers_by at server bearer drawn request).response
  response-is (Some (asked.Tickets keys)) = tickets-response keys
  response-is (Some asked.Rotating) = rotating-response
  response-is None = refl

-- ---- rows

-- the server behind the rotation
abbrev pub server_at : MonitorArrival → Server
server_at a = rotated_server a.reading a.draw a.own.server

-- a reply is to the request that was heard in this frame, under its number
pub record IsReplyTo (a : MonitorArrival) (bearer : Bearer) (f : Frame) (tid : ℕ) (reply : Reply) : Type 0 where
  pub demand : Demand
  pub heard_as : heard bearer f ≡ Ok demand
  pub number : demand.tid ≡ tid
  pub made : ReplyMade
  pub replies : (answers (request_occasion a) a.own.server bearer demand.request).response ≡ response.Replies made
  pub body : made.body ≡ reply_layout.form.text reply
  pub told : IsToldBy (server_at a) bearer demand.request reply

abbrev pub TellsBy : MonitorArrival → Bearer → Frame → Given → Type 0
TellsBy a bearer f (Replies tid reply) = IsReplyTo a bearer f tid reply
TellsBy a bearer f (Confirms ack) = Unit {0}
TellsBy a bearer f (Greets address) = ⊥
TellsBy a bearer f Resets = ⊥
TellsBy a bearer f (Lacks features) = ⊥

-- the link stays that of this entity, open
abbrev pub StaysOpen : ℕ → Name → Secured → Link MonitorStage → Type 0
StaysOpen number name s link = (link.number ≡ number) × (bearer : Bearer) × (link.stage ≡ Open s bearer) × (bearer.name ≡ name)

module _ (P : List ℕ → Type 0) (a : MonitorArrival) (s : Secured) (bearer : Bearer) (f : Frame)
    (still : (demand : Demand) → heard bearer f ≡ Ok demand → (made : ReplyMade) → (answers (request_occasion a) a.own.server bearer demand.request).response ≡ response.Replies made
    → AreStill P (made.seals ++ made.sealed)) where
  abbrev Kept : Option Given → Secured → Link MonitorStage → Type 0
  Kept word t link = StaysOpen a.link.number bearer.name t link

  abbrev Tells : Given → Type 0
  Tells = TellsBy a bearer f

  abbrev pub OpenSays : MonitorRow → Type 0
  OpenSays row = RowSays given_frame P Kept Tells s row

  keepalive-says : (read : Result Keepalive2 BytesFault) → OpenSays (on_keepalive a s (λ behind. Open behind bearer) read)
  keepalive-says (Err why) = refuses-says given_frame P Kept Tells a s (Bytes why) [] (λ key test p. refl)
  keepalive-says (Ok keepalive) =
      secure-says given_frame P Kept Tells a s (λ behind. Open behind bearer) [] (Confirms (record { time = keepalive.time })) (λ key test p. refl) tt (λ t. (refl, bearer, refl, refl))

  keepalive_ack-says : (read : Result Keepalive2Ack BytesFault) → OpenSays (on_keepalive_ack a s (λ behind. Open behind bearer) read)
  keepalive_ack-says (Err why) = refuses-says given_frame P Kept Tells a s (Bytes why) [] (λ key test p. refl)
  keepalive_ack-says (Ok ack) = goes-says given_frame P Kept Tells a s (Open s bearer) (refl, bearer, refl, refl)

  abbrev drawn : List SealEntry
  drawn = rotation_drawn a.reading a.draw a.own.server.state

  drawn-still : (seals : List SealEntry) → seals ≡ drawn → AreStill P seals
  drawn-still seals same = subst (AreStill P) (sym same) (quiet-still P drawn (rotation-quiet a.reading a.draw a.own.server.state))

  -- a reply, where it can be sent
  reply-says : (server : Server) (demand : Demand) → heard bearer f ≡ Ok demand → (made : ReplyMade) → (answers (request_occasion a) a.own.server bearer demand.request).response ≡ response.Replies made
      → (is : IsReply (server_at a) bearer drawn demand.request made) → (r : Result SealedFrame BytesFault) → secure_frame s.keys (given_frame (Replies demand.tid is.reply)) ≡ r
      → OpenSays (sends_reply Open (serving a server) s bearer demand.seq made r)
  reply-says server demand heard_as made replies is (Err why) sealing = refuses-says given_frame P Kept Tells (serving a server) s (Bytes why) made.seals (drawn-still made.seals is.drawn_is)
  reply-says server demand heard_as made replies is (Ok sent) sealing = inr (record {
    word = Replies demand.tid is.reply;
    told = record { demand = demand; heard_as = heard_as; number = refl; made = made; replies = replies; body = is.body; told = is.told };
    before = made.seals ++ made.sealed;
    still = still demand heard_as made replies;
    sealed = sent;
    made = sealing;
    seals = sym (append_assoc made.seals made.sealed sent.seals);
    link = (refl, record bearer { last = demand.seq }, refl, refl);
  })

  response-says : (server : Server) (demand : Demand) → heard bearer f ≡ Ok demand → (r : Response) → (answers (request_occasion a) a.own.server bearer demand.request).response ≡ r
      → IsResponse (server_at a) bearer drawn demand.request r → OpenSays (responds Open (serving a server) s bearer demand r)
  response-says server demand heard_as (response.Refuses why seals) same is = refuses-says given_frame P Kept Tells (serving a server) s why seals (drawn-still seals is)
  response-says server demand heard_as (response.Replies made) same is =
      let frame : given_frame (Replies demand.tid is.reply) ≡ reply_message demand.tid made.body = ap (λ (body : List ℕ). reply_message demand.tid body) (sym is.body) in
      reply-says server demand heard_as made same is (secure_frame s.keys (reply_message demand.tid made.body)) (ap (λ (g : Frame). secure_frame s.keys g) frame)

  demand-says : (found : Result Demand Reason) → heard bearer f ≡ found → OpenSays (on_demand Open a s bearer found)
  demand-says (Err why) is = refuses-says given_frame P Kept Tells a s why [] (λ key test p. refl)
  demand-says (Ok demand) is =
      let r : Responded = answers (request_occasion a) a.own.server bearer demand.request in
      response-says r.server demand is r.response refl (response-is (request_occasion a) (server_at a) bearer drawn demand.request)

  -- whatever was read on an open link
  pub open-says : OpenSays (on_open Open a s bearer f)
  open-says = by_tests (f.tag == 18) (f.tag == 19)
    where
      by_tests : (ask ack : Bool) → OpenSays (if ask then on_keepalive a s (λ behind. Open behind bearer) (payload keepalive2_layout.form f)
          else if ack then on_keepalive_ack a s (λ behind. Open behind bearer) (payload keepalive2_ack_layout.form f) else on_message Open a s bearer f)
      by_tests true ack = keepalive-says (payload keepalive2_layout.form f)
      by_tests false true = keepalive_ack-says (payload keepalive2_ack_layout.form f)
      by_tests false false = demand-says (heard bearer f) refl
