-- What the monitor decides of a request on an open link, step by step ("detailed cephx protocol": tickets for services, and rotating secrets for
-- a daemon). No link and no frame stand here: the row is made from the response.
use Rattle.std.specs.Prelude.{ℕ, List, [], ◌∷◌, filter, map, Option, Some, None, Result, Ok, Err}
use Rattle.std.specs.List.{flat_map}
use Rattle.cx_base.specs.declared.kinds.EntityType.{EntityType}
use Rattle.cx_base.specs.declared.kinds.EntityType.TheVariants.{Mds, Osd, Mgr}
use Rattle.cx_keyserver.specs.cx_cbc.specs.Envelope.{sealed}
use Rattle.cx_login.specs.cx_enc.specs.declared.keys.Key.{Key}
use Rattle.cx_login.specs.cx_journal.specs.declared.faults.LoginFault.{LoginFault}
use Rattle.cx_login.specs.cx_journal.specs.declared.faults.LoginFault.TheVariants.{UnknownEntity}
use Rattle.cx_login.specs.cx_journal.specs.declared.outcomes.Reason.{Reason}
use Rattle.cx_login.specs.cx_journal.specs.declared.outcomes.Reason.TheVariants as reason
use Rattle.cx_login.specs.cx_journal.specs.declared.premises.KeyKind.TheVariants.{Principal}
use Rattle.cx_keyserver.specs.Issuing.{Asked, asking}
use Rattle.cx_keyserver.specs.Servers.{Server, rotated_server, secrets_of}
use Rattle.cx_keyserver.specs.declared.refusals.NotADaemon.{NotADaemon}
use Rattle.cx_keyserver.specs.declared.tickets.Ticket.{Ticket}
use Rattle.cx_rotate.specs.declared.generations.Generation.{Generation}
use Rattle.cx_rotate.specs.declared.states.KeptState.{KeptState}
use Rattle.cx_keyserver.specs.cx_sealed.specs.Records.{rotating_reply_layout}
use Rattle.cx_login.specs.cx_steps.specs.declared.seals.SealEntry.{SealEntry}
use Rattle.cx_login.specs.cx_steps.specs.declared.seals.SealEntry.TheVariants.{Sealed}
use Rattle.cx_login.specs.cx_wire.specs.Bodies.{reply_layout}
use Rattle.cx_login.specs.cx_wire.specs.declared.bodies.Reply.{Reply}
use Rattle.cx_login.specs.cx_wire.specs.declared.bodies.Reply.TheVariants as given
use Rattle.cx_login.specs.cx_wire.specs.declared.bodies.Request.{Request}
use Rattle.cx_login.specs.cx_wire.specs.declared.bodies.Request.TheVariants as asked
use Rattle.cx_rules.specs.KeptStates.{changed}
use Rattle.cx_rules.specs.Tickets.{is_asked, issued_for, rotation_drawn, ticket_part, ticket_seals}
use Rattle.cx_rules.specs.Verdicts.{Occasion, key_of, login_entries}
use Rattle.cx_rules.specs.declared.responses.Bearer.{Bearer}
use Rattle.cx_rules.specs.declared.responses.ReplyMade.{ReplyMade}
use Rattle.cx_rules.specs.declared.responses.Response.{Response}
use Rattle.cx_rules.specs.declared.responses.Response.TheVariants.{Refuses, Replies}

-- what comes of a request, and the key server behind it
pub record Responded : Type 0 where
  pub response : Response
  pub server : Server

abbrev pub responded : Server → Response → Responded
responded server response = record { response = response; server = server }

abbrev pub refused : Server → Reason → List SealEntry → Responded
refused server why drawn = responded server (Refuses why drawn)

-- a reply: a state that is saved is entered before the tickets
abbrev pub reply_made : Option KeptState → List SealEntry → List SealEntry → List Ticket → Reply → ReplyMade
reply_made save drawn told tickets reply = record {
  body = reply_layout.form.text reply;
  seals = drawn;
  sealed = told;
  save = save;
  entries = login_entries save tickets;
}

-- the state is saved where it has changed
abbrev pub replied : Occasion → Server → List SealEntry → List SealEntry → List Ticket → Reply → Responded
replied at server drawn told tickets reply = responded server (Replies (reply_made (changed at.saved server.state) drawn told tickets reply))

-- ---- code 0x0200: tickets

-- of MDS, OSD and MGR those that are asked; a ticket for AUTH comes of a login alone
abbrev pub others_for : ℕ → List EntityType
others_for keys = filter (is_asked keys) (Mds ∷ Osd ∷ Mgr ∷ [])

-- the ticket that is asked for a service, which is told under the session key of the ticket for AUTH
abbrev pub asking_of : Occasion → Bearer → EntityType → Asked
asking_of at bearer service = asking bearer.name service bearer.gid bearer.session at.reading at.draw

-- the tickets were issued, or they can't be
abbrev pub tells_tickets : Occasion → Server → Bearer → List SealEntry → List ℕ → Result (List Ticket) LoginFault → Responded
tells_tickets at server bearer drawn own (Err why) = refused server (reason.Login why) drawn
tells_tickets at server bearer drawn own (Ok tickets) =
    replied at server drawn (flat_map (ticket_seals server own bearer.session) tickets) tickets (given.Tickets (map ticket_part tickets))

-- a ticket is issued for each asked service for which the entity has capabilities; one that the keyring lacks by now gets none
abbrev pub issues_tickets : Occasion → Server → Bearer → List SealEntry → ℕ → Option Key → Responded
issues_tickets at server bearer drawn keys None = refused server (reason.Login UnknownEntity) drawn
issues_tickets at server bearer drawn keys (Some own) =
    tells_tickets at server bearer drawn own.secret (issued_for server (asking_of at bearer) (others_for keys))

abbrev pub on_tickets : Occasion → Server → Bearer → List SealEntry → ℕ → Responded
on_tickets at server bearer drawn keys = issues_tickets at server bearer drawn keys (key_of server bearer.name)

-- ---- code 0x0400: generations

-- what a daemon is told: its own type, and the generations of that
abbrev pub told_content : EntityType → List Generation → List ℕ
told_content kind generations = rotating_reply_layout.form.text (record { service = kind; generations = generations })

abbrev pub told_seal : List ℕ → List ℕ → SealEntry
told_seal own content = Sealed (record { key = own; kind = Principal; content = content })

-- a daemon of the keyring is told the generations of its own type, under its own secret; nobody else is told any
abbrev pub tells_generations : Occasion → Server → Bearer → List SealEntry → Option Key → Result (List Generation) NotADaemon → Responded
tells_generations at server bearer drawn (Some own) (Ok generations) =
    let content = told_content bearer.name.kind generations in
    replied at server drawn (told_seal own.secret content ∷ []) [] (given.Rotating (sealed own.secret content))
tells_generations at server bearer drawn _ _ = refused server reason.NotADaemon drawn

abbrev pub on_rotating : Occasion → Server → Bearer → List SealEntry → Responded
on_rotating at server bearer drawn = tells_generations at server bearer drawn (key_of server bearer.name) (secrets_of server bearer.name)

-- ---- another code, or another type of message

abbrev pub on_other_code : Server → List SealEntry → Responded
on_other_code server drawn = refused server reason.BadRequest drawn

-- ---- by what is asked

abbrev pub answers_by : Occasion → Server → Bearer → List SealEntry → Option Request → Responded
answers_by at server bearer drawn (Some (asked.Tickets keys)) = on_tickets at server bearer drawn keys
answers_by at server bearer drawn (Some asked.Rotating) = on_rotating at server bearer drawn
answers_by at server bearer drawn None = on_other_code server drawn

-- the secrets are rotated, whatever comes of the request
abbrev pub answers : Occasion → Server → Bearer → Option Request → Responded
answers at server bearer request =
    answers_by at (rotated_server at.reading at.draw server) bearer (rotation_drawn at.reading at.draw server.state) request
