-- What comes of a request, from what its steps do.
use Rattle.std.proofs.Common.{◌≡◌, List, [], ◌++◌, ℕ, Option, Some, Result, Ok, map, sym, ap, subst, ◌∙◌}
use Rattle.std.specs.declared.alloc.AllocError.{AllocError}
use Rattle.cx_base.specs.declared.kinds.EntityType.{EntityType}
use Rattle.cx_enc.specs.declared.keys.Key.{Key}
use Rattle.cx_journal.specs.declared.faults.LoginFault.{LoginFault}
use Rattle.cx_keyserver.specs.Servers.{Server, rotated_server}
use Rattle.cx_keyserver.specs.declared.tickets.Ticket.{Ticket}
use Rattle.std.specs.List.{flat_map}
use Rattle.cx_rules.specs.KeptStates.{changed}
use Rattle.cx_rules.specs.Replies.{Responded, answers, answers_by, asking_of, issues_tickets, on_tickets, others_for, reply_made, responded, tells_tickets}
use Rattle.cx_rules.specs.Tickets.{issued_for, rotation_drawn, ticket_part, ticket_seals}
use Rattle.cx_rules.specs.Verdicts.{Occasion, key_of}
use Rattle.cx_rules.specs.declared.responses.Bearer.{Bearer}
use Rattle.cx_rules.specs.declared.responses.ReplyMade.{ReplyMade}
use Rattle.cx_rules.specs.declared.responses.Response.{Response}
use Rattle.cx_rules.specs.declared.responses.Response.TheVariants.{Replies}
use Rattle.cx_steps.specs.declared.seals.SealEntry.{SealEntry}
use Rattle.cx_wire.specs.declared.bodies.Reply.TheVariants.{Tickets}
use Rattle.cx_wire.specs.declared.bodies.Request.{Request}
use Rattle.cx_mon_grants.specs.Deciding.{Responds}

-- behind the tickets
pub tickets_respond : (at : Occasion) (server new : Server) (bearer : Bearer) (drawn : List SealEntry) (keys : ℕ) (own : Key) (services : List EntityType)
    (tickets : Result (List Ticket) LoginFault) (response : Response) → key_of server bearer.name ≡ Some own → services ≡ others_for keys
    → tickets ≡ issued_for server (asking_of at bearer) services → new ≡ server
    → tells_tickets at server bearer drawn own.secret tickets ≡ responded server response → on_tickets at server bearer drawn keys ≡ responded new response
tickets_respond at server new bearer drawn keys own services tickets response key_is services_are tickets_are same made =
    let told : Result (List Ticket) LoginFault → Responded = tells_tickets at server bearer drawn own.secret in
    ap (issues_tickets at server bearer drawn keys) key_is
    ∙ ap (λ (ss : List EntityType). told (issued_for server (asking_of at bearer) ss)) (sym services_are)
    ∙ ap told (sym tickets_are) ∙ made ∙ ap (λ (s : Server). responded s response) (sym same)

-- behind the reply with them
pub tickets_reply : (at : Occasion) (server new : Server) (bearer : Bearer) (drawn : List SealEntry) (keys : ℕ) (own : Key) (services : List EntityType)
    (given_tickets : Result (List Ticket) LoginFault) (tickets : List Ticket) (made : ReplyMade) → key_of server bearer.name ≡ Some own → services ≡ others_for keys
    → given_tickets ≡ issued_for server (asking_of at bearer) services → given_tickets ≡ Ok tickets → new ≡ server
    → made ≡ reply_made (changed at.saved server.state) drawn (flat_map (ticket_seals server own.secret bearer.session) tickets) tickets (Tickets (map ticket_part tickets))
    → on_tickets at server bearer drawn keys ≡ responded new (Replies made)
tickets_reply at server new bearer drawn keys own services given_tickets tickets made key_is services_are issued_are given_are same made_is =
    tickets_respond at server new bearer drawn keys own services given_tickets (Replies made) key_is services_are issued_are same
    (ap (tells_tickets at server bearer drawn own.secret) given_are ∙ ap (λ (m : ReplyMade). responded server (Replies m)) (sym made_is))

-- behind the rotation
pub answers_respond : (at : Occasion) (server rotated new : Server) (bearer : Bearer) (none drawn : List SealEntry) (request : Option Request) (result : Result Response AllocError)
    → none ≡ [] → rotated ≡ rotated_server at.reading at.draw server → drawn ≡ none ++ rotation_drawn at.reading at.draw server.state
    → Responds (answers_by at rotated bearer drawn request) new result → Responds (answers at server bearer request) new result
answers_respond at server rotated new bearer none drawn request result none_is rotated_is drawn_is =
    let all : drawn ≡ rotation_drawn at.reading at.draw server.state =
    drawn_is ∙ ap (λ (xs : List SealEntry). xs ++ rotation_drawn at.reading at.draw server.state) none_is in
    subst (λ (r : Responded). Responds r new result)
    (ap (λ (s : Server). answers_by at s bearer drawn request) rotated_is
    ∙ ap (λ (xs : List SealEntry). answers_by at (rotated_server at.reading at.draw server) bearer xs request) all)
