-- A request that is due is replied to.
use Rattle.std.proofs.Common.{◌≡◌, ℕ, ◌==◌, ◌+◌, ◌≤◌, Bool, true, false, List, [], ◌∷◌, ◌++◌, length, map, Option, Some, None, Ok, Err, refl, sym, ap, subst, ◌∙◌, arith, eqb-true}
use Rattle.std.specs.Prelude.{◌≢◌, ◌-◌, ◌^◌, IsTrue, find, if◌then◌else◌}
use Rattle.std.specs.List.{flat_map}
use Rattle.std.specs.Option.{option_map}
use Rattle.std.proofs.lemmas.Bool.{eq-eqb, ne_eqb}
use Rattle.cx_base.specs.Names.{Name, is_daemon_type}
use Rattle.cx_base.specs.declared.nodes.NodeName.TheVariants as node
use Rattle.cx_keyserver.specs.cx_cbc.specs.Envelope.{sealed}
use Rattle.cx_login.specs.cx_control.specs.Upkeep.{keepalive2_layout, keepalive2_ack_layout}
use Rattle.cx_stream.specs.cx_frame.specs.declared.frame.Frame.{Frame}
use Rattle.cx_login.specs.cx_journal.specs.declared.faults.BytesFault.TheVariants.{Unexpected}
use Rattle.cx_keyserver.specs.cx_keyring.specs.Entries.{is_named}
use Rattle.cx_keyserver.specs.cx_keyring.specs.declared.entries.Entry.{Entry as Principal}
use Rattle.cx_keyserver.specs.Servers.{Server, generations_of, rotated_server, secrets_of}
use Rattle.cx_keyserver.specs.declared.tickets.Ticket.{Ticket}
use Rattle.cx_rotate.specs.declared.generations.Generation.{Generation}
use Rattle.cx_rotate.specs.declared.states.KeptState.{KeptState}
use Rattle.cx_login.specs.cx_steps.specs.Onto.{SomeOf}
use Rattle.cx_login.specs.cx_steps.specs.declared.seals.SealEntry.{SealEntry}
use Rattle.cx_login.specs.cx_wire.specs.Bodies.{reply_layout, request_layout}
use Rattle.cx_login.specs.cx_wire.specs.declared.bodies.Reply.{Reply}
use Rattle.cx_login.specs.cx_wire.specs.declared.bodies.Reply.TheVariants as given
use Rattle.cx_login.specs.cx_wire.specs.declared.bodies.Request.{Request}
use Rattle.cx_login.specs.cx_wire.specs.declared.bodies.Request.TheVariants as asked
use Rattle.cx_rules.specs.Acceptor.{Open}
use Rattle.cx_rules.specs.Answering.{AreGenerationsDue, AreTicketsDue, GivesGenerations, GivesTickets, HearsRequest, IsIssuedTo, SendsReply}
use Rattle.cx_rules.specs.Inputs.{Turn}
use Rattle.cx_rules.specs.KeptStates.{changed}
use Rattle.cx_rules.specs.Links.{Link}
use Rattle.cx_rules.specs.Messages.{Message, body_as, message_in, message_of}
use Rattle.cx_rules.specs.Monitor.{MonitorArrival, MonitorNode, MonitorRow, MonitorStage}
use Rattle.cx_rules.specs.MonitorRequests.{demand_as, demand_by, demand_of, heard, on_demand, on_message, on_open, ordered, reply_message, responds, row_responding, sends_reply, serving}
use Rattle.cx_rules.specs.MonitorRule.{monitor_rule, noted, turned_at}
use Rattle.cx_rules.specs.Payloads.{payload}
use Rattle.cx_rules.specs.Replies.{answers, asking_of, issues_tickets, others_for, replied, reply_made, tells_generations, tells_tickets, told_content, told_seal}
use Rattle.cx_rules.specs.Rows.{Handles, Outcome, arrival, at, carried_out, turned_by, with_opened}
use Rattle.cx_rules.specs.Secured.{Keys, SealedFrame, Secured, sealed_under, under}
use Rattle.cx_rules.specs.Tickets.{issued_for, rotation_drawn, ticket_part, ticket_seals}
use Rattle.cx_rules.specs.Upkeep.{on_keepalive, on_keepalive_ack}
use Rattle.cx_rules.specs.Verdicts.{Occasion, login_entries}
use Rattle.cx_rules.specs.declared.messages.Body.{Body}
use Rattle.cx_rules.specs.declared.messages.Body.TheVariants.{Spelled}
use Rattle.cx_rules.specs.declared.responses.Bearer.{Bearer}
use Rattle.cx_rules.specs.declared.responses.Demand.{Demand}
use Rattle.cx_rules.specs.declared.responses.ReplyMade.{ReplyMade}
use Rattle.cx_rules.specs.declared.responses.Response.TheVariants.{Replies}
use Rattle.cx_rules.proofs.Affording.{affords, others-few, others-have, ticket-entered, wanted-listed}
use Rattle.cx_rules.proofs.Carrying.{carried-on}
use Rattle.cx_rules.proofs.Handling.{found-number, secure-number, turn-handles}
use Rattle.cx_rules.proofs.Pieces.{secure-piece}
use Rattle.cx_rules.proofs.Sizes.{length-reply_rotating, length-reply_tickets, length-sealed, length-told, reply-parts, secure-sent, total-reply}

-- ---- the message

-- a frame that is a message has tag 17
message-tag : (f : Frame) (message : Message) → message_in f ≡ Ok message → f.tag ≡ 17
message-tag f message e = by_test (f.tag == 17) refl e
  where
    by_test : (t : Bool) → (f.tag == 17) ≡ t → (if t then message_of f.segments else Err (Unexpected f.tag)) ≡ Ok message → f.tag ≡ 17
    by_test true same is = eqb-true f.tag 17 same
    by_test false same is = absurd cc

-- it is no keepalive
open-message : (a : MonitorArrival) (s : Secured) (bearer : Bearer) (f : Frame) → f.tag ≡ 17 → on_open Open a s bearer f ≡ on_message Open a s bearer f
open-message a s bearer f e =
    let by_tag : ℕ → MonitorRow = λ tag.
    if tag == 18 then on_keepalive a s (λ behind. Open behind bearer) (payload keepalive2_layout.form f)
    else if tag == 19 then on_keepalive_ack a s (λ behind. Open behind bearer) (payload keepalive2_ack_layout.form f)
    else on_message Open a s bearer f in
    ap by_tag e

-- the demand of a request
abbrev demand : Message → Request → Demand
demand message request = record { seq = message.header.seq; tid = message.header.tid; request = Some request }

demand-heard : (bearer : Bearer) (f : Frame) (message : Message) (request : Request) → message_in f ≡ Ok message → message.header.type_ ≡ 17
    → body_as request_layout.form message.body ≡ Spelled request → message.header.seq ≡ bearer.last + 1 → bearer.last ≢ 2 ^ 64 - 1
    → heard bearer f ≡ Ok (demand message request)
demand-heard bearer f message request read kind asks order left =
    let is_request : (message.header.type_ == 17) ≡ true = eq-eqb message.header.type_ 17 kind in
    let not_last : (bearer.last == 2 ^ 64 - 1) ≡ false = ne_eqb bearer.last (2 ^ 64 - 1) left in
    let is_next : (message.header.seq == bearer.last + 1) ≡ true = eq-eqb message.header.seq (bearer.last + 1) order in
    ap (λ m. ordered bearer.last (demand_of m)) read
    ∙ ap (λ (t : Bool). ordered bearer.last (if t then demand_by message (body_as request_layout.form message.body) else Ok (demand_as message None))) is_request
    ∙ ap (λ (b : Body Request). ordered bearer.last (demand_by message b)) asks
    ∙ rw (not_last, is_next) refl

-- ---- the turn

-- a request that comes is demanded of the monitor
request-demanded : (m : MonitorNode) (number reading : ℕ) (draw : List ℕ) (request : Request) (h : HearsRequest m number request)
    → turned_at (arrival node.Monitor (noted m).own h.link reading draw) h.link.stage
    ≡ Handles (with_opened h.opened (on_demand Open (at (arrival node.Monitor (noted m).own h.link reading draw) h.behind) (under h.secured h.keys) h.bearer (Ok (demand h.message request))))
request-demanded m number reading draw request h =
    let a : MonitorArrival = arrival node.Monitor (noted m).own h.link reading draw in
    let b : MonitorArrival = at a h.behind in
    let s : Secured = under h.secured h.keys in
    ap (turned_at a) h.stage
    ∙ ap (turned_by (λ ((link, f, keys) : Link MonitorStage × Frame × Keys) opened. with_opened opened (on_open Open (at a link) (under h.secured keys) h.bearer f))) h.next
    ∙ ap (λ (row : MonitorRow). Handles (with_opened h.opened row))
    (open-message b s h.bearer h.frame (message-tag h.frame h.message h.read)
    ∙ ap (on_demand Open b s h.bearer) (demand-heard h.bearer h.frame h.message request h.read h.type_ h.asks h.order h.left))

-- a reply that is made is sent: its row
reply-row : (a : MonitorArrival) (s : Secured) (bearer : Bearer) (d : Demand) (made : ReplyMade) → length made.body ≤ 1048535 → s.keys.out.counter + 2 ≤ 2 ^ 64 - 1
    → responds Open a s bearer d (Replies made) ≡ sends_reply Open a s bearer d.seq made (Ok (sealed_under s.keys (reply_message d.tid made.body)))
reply-row a s bearer d made short left =
    let f : Frame = reply_message d.tid made.body in
    ap (sends_reply Open a s bearer d.seq made)
    (secure-sent s.keys f (omega (arith, reply-parts d.tid made.body)) (omega (arith, total-reply d.tid made.body)))

-- ---- the step

-- a request to which this reply is made: the step sends it, and enters its tickets
reply-sent : (m : MonitorNode) (number reading : ℕ) (draw : List ℕ) (request : Request) (h : HearsRequest m number request) (told : List SealEntry) (tickets : List Ticket) (reply : Reply)
    → (let at_once : Occasion = record { saved = m.own.saved; reading = reading; draw = draw } in
    answers at_once m.own.server h.bearer (Some request)
    ≡ replied at_once (rotated_server reading draw m.own.server) (rotation_drawn reading draw m.own.server.state) told tickets reply)
    → length (reply_layout.form.text reply) ≤ 1048535
    → SendsReply m number reading draw h reply (monitor_rule m (Turn number) reading draw)
    × ((monitor_rule m (Turn number) reading draw).out.entries ≡ login_entries (monitor_rule m (Turn number) reading draw).out.save tickets)
reply-sent m number reading draw request h told tickets reply answered short =
    let b : MonitorArrival = at (arrival node.Monitor (noted m).own h.link reading draw) h.behind in
    let s : Secured = under h.secured h.keys in
    let d : Demand = demand h.message request in
    let server : Server = rotated_server reading draw m.own.server in
    let made : ReplyMade = reply_made (changed m.own.saved server.state) (rotation_drawn reading draw m.own.server.state) told tickets reply in
    let sent : SealedFrame = sealed_under h.keys (reply_message h.message.header.tid (reply_layout.form.text reply)) in
    let row : MonitorRow = sends_reply Open (serving b server) s h.bearer d.seq made (Ok sent) in
    let is_row : on_demand Open b s h.bearer (Ok d) ≡ row =
    ap (row_responding Open b s h.bearer d) answered ∙ reply-row (serving b server) s h.bearer d made short h.counters in
    let is : monitor_rule m (Turn number) reading draw ≡ carried_out (noted m) number true (with_opened h.opened row) =
    turn-handles m number reading draw h.link (with_opened h.opened row) h.found
    (request-demanded m number reading draw request h ∙ ap (λ (r : MonitorRow). Handles (with_opened h.opened r)) is_row) in
    let numbered : h.behind.number ≡ number = secure-number h.secured.keys h.keys h.link h.behind h.frame h.opened h.next ∙ found-number number m.links h.link h.found in
    let sends : SendsReply m number reading draw h reply (carried_out (noted m) number true (with_opened h.opened row)) = record {
      sent = sent;
      made = refl;
      sends = secure-piece number h.keys 17 _ _;
      server = refl;
      carries = carried-on (noted m) number h.behind (Open (under s sent.keys) (record h.bearer { last = d.seq })) sent.bytes row.entries (with_opened h.opened row) numbered refl refl refl;
    } in
    subst (λ (o : Outcome MonitorNode). SendsReply m number reading draw h reply o × (o.out.entries ≡ login_entries o.out.save tickets)) (sym is) (sends, refl)

-- ---- tickets

tickets-answered : (at_once : Occasion) (server : Server) (bearer : Bearer) (keys : ℕ) (principal : Principal) (tickets : List Ticket) → find (is_named bearer.name) server.ring ≡ Some principal
    → issued_for (rotated_server at_once.reading at_once.draw server) (asking_of at_once bearer) (others_for keys) ≡ Ok tickets
    → answers at_once server bearer (Some (asked.Tickets keys))
    ≡ (let rotated = rotated_server at_once.reading at_once.draw server in
    replied at_once rotated (rotation_drawn at_once.reading at_once.draw server.state) (flat_map (ticket_seals rotated principal.key.secret bearer.session) tickets) tickets (given.Tickets (map ticket_part tickets)))
tickets-answered at_once server bearer keys principal tickets known made =
    let rotated : Server = rotated_server at_once.reading at_once.draw server in
    let drawn : List SealEntry = rotation_drawn at_once.reading at_once.draw server.state in
    ap (λ (found : Option Principal). issues_tickets at_once rotated bearer drawn keys (option_map (λ (entry : Principal). entry.key) found)) known
    ∙ ap (tells_tickets at_once rotated bearer drawn principal.key.secret) made

-- tickets that are due are sent
pub tickets-given : (m : MonitorNode) (number keys reading : ℕ) (draw : List ℕ) (h : HearsRequest m number (asked.Tickets keys)) (due : AreTicketsDue m h.bearer keys reading draw)
    → GivesTickets m number keys reading draw h due.principal (monitor_rule m (Turn number) reading draw)
tickets-given m number keys reading draw h due =
    let rotated : Server = rotated_server reading draw m.own.server in
    let at_once : Occasion = record { saved = m.own.saved; reading = reading; draw = draw } in
    let given_out = affords rotated due.principal h.bearer.name h.bearer.gid h.bearer.session reading draw (others_for keys) due.known due.named due.caps (others-have keys) due.current in
    let few : length given_out.tickets ≤ length (others_for keys) = given_out.few in
    let step = reply-sent m number reading draw (asked.Tickets keys) h (flat_map (ticket_seals rotated due.principal.key.secret h.bearer.session) given_out.tickets) given_out.tickets
    (given.Tickets (map ticket_part given_out.tickets))
    (tickets-answered at_once m.own.server h.bearer keys due.principal given_out.tickets due.known given_out.made)
    (omega (arith, length-reply_tickets given_out.tickets given_out.short, few, others-few keys)) in
    let save : Option KeptState = (monitor_rule m (Turn number) reading draw).out.save in
    record {
      tickets = given_out.tickets;
      issued = given_out.each;
      replied = step.0;
      entries = step.1;
      entered = λ service caps wanted has.
          subst (SomeOf (IsIssuedTo h.bearer.name h.bearer.gid service caps)) (sym step.1)
          (ticket-entered h.bearer.name h.bearer.gid service caps save given_out.tickets (given_out.tells service caps (wanted-listed keys service wanted) has));
    }

-- ---- generations

secrets-found : (server : Server) (name : Name) (principal : Principal) → find (is_named name) server.ring ≡ Some principal → IsTrue (is_daemon_type name.kind)
    → secrets_of server name ≡ Ok (generations_of server.state name.kind)
secrets-found server name principal known daemon = rw (known, daemon) refl

generations-answered : (at_once : Occasion) (server : Server) (bearer : Bearer) (principal : Principal) → find (is_named bearer.name) server.ring ≡ Some principal → IsTrue (is_daemon_type bearer.name.kind)
    → answers at_once server bearer (Some asked.Rotating)
    ≡ (let rotated = rotated_server at_once.reading at_once.draw server in
    let content = told_content bearer.name.kind (generations_of rotated.state bearer.name.kind) in
    replied at_once rotated (rotation_drawn at_once.reading at_once.draw server.state) (told_seal principal.key.secret content ∷ []) [] (given.Rotating (sealed principal.key.secret content)))
generations-answered at_once server bearer principal known daemon =
    let rotated : Server = rotated_server at_once.reading at_once.draw server in
    let drawn : List SealEntry = rotation_drawn at_once.reading at_once.draw server.state in
    ap (λ (found : Option Principal). tells_generations at_once rotated bearer drawn (option_map (λ (entry : Principal). entry.key) found) (secrets_of rotated bearer.name)) known
    ∙ ap (tells_generations at_once rotated bearer drawn (Some principal.key)) (secrets-found rotated bearer.name principal known daemon)

-- generations that are due are sent
pub generations-given : (m : MonitorNode) (number reading : ℕ) (draw : List ℕ) (h : HearsRequest m number asked.Rotating) (due : AreGenerationsDue m h.bearer reading draw)
    → GivesGenerations m number reading draw h due.principal (monitor_rule m (Turn number) reading draw)
generations-given m number reading draw h due =
    let rotated : Server = rotated_server reading draw m.own.server in
    let at_once : Occasion = record { saved = m.own.saved; reading = reading; draw = draw } in
    let kind = h.bearer.name.kind in
    let three : List Generation = generations_of rotated.state kind in
    let content : List ℕ = told_content kind three in
    let own : List ℕ = due.principal.key.secret in
    let count : length three ≡ 3 = due.stand.0 in
    let step = reply-sent m number reading draw asked.Rotating h (told_seal own content ∷ []) [] (given.Rotating (sealed own content))
    (generations-answered at_once m.own.server h.bearer due.principal due.known due.daemon)
    (omega (arith, length-reply_rotating (sealed own content), length-sealed own content, length-told kind three due.stand.1, count)) in
    record { replied = step.0; entries = step.1 }
