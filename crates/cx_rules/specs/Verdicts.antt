-- What the monitor decides of a login whose proof was found equal, step by step ("detailed cephx protocol": an Authenticate that proves the
-- entity's secret is answered by tickets). No link and no frame stand here: the row is made from the verdict.
use Rattle.std.specs.Prelude.{ℕ, ◌==◌, ◌+◌, ◌-◌, ◌^◌, List, [], ◌∷◌, ◌++◌, find, map, Option, Some, None, Result, Ok, Err, if◌then◌else◌}
use Rattle.std.specs.List.{flat_map}
use Rattle.std.specs.Option.{option_map}
use Rattle.cx_base.specs.Names.{Name}
use Rattle.cx_base.specs.declared.kinds.EntityType.{EntityType}
use Rattle.cx_base.specs.declared.kinds.EntityType.TheVariants.{Auth}
use Rattle.cx_keyserver.specs.cx_cbc.specs.Envelope.{sealed}
use Rattle.cx_login.specs.cx_control.specs.Auth.{auth_done_layout}
use Rattle.cx_keyserver.specs.cx_dice.specs.Draws.{connection_of, session_of}
use Rattle.cx_login.specs.cx_enc.specs.declared.keys.Key.{Key}
use Rattle.cx_login.specs.cx_journal.specs.declared.entries.Entry.{Entry}
use Rattle.cx_login.specs.cx_journal.specs.declared.entries.Entry.TheVariants as entry
use Rattle.cx_login.specs.cx_journal.specs.declared.faults.LoginFault.{LoginFault}
use Rattle.cx_login.specs.cx_journal.specs.declared.faults.LoginFault.TheVariants as login
use Rattle.cx_login.specs.cx_journal.specs.declared.premises.KeyKind.TheVariants.{Session}
use Rattle.cx_keyserver.specs.cx_keyring.specs.Entries.{is_named}
use Rattle.cx_keyserver.specs.Issuing.{Asked, asking}
use Rattle.cx_keyserver.specs.Servers.{Server, rotated_server}
use Rattle.cx_keyserver.specs.declared.tickets.Ticket.{Ticket}
use Rattle.cx_login.specs.Monitor.{Proven, kept_gid, proof_found, reclaimed}
use Rattle.cx_login.specs.Unlocking.{Unlocked, old_ticket}
use Rattle.cx_login.specs.declared.monitor.Reclaim.{Reclaim}
use Rattle.cx_login.specs.declared.monitor.Reclaim.TheVariants as reclaim
use Rattle.cx_rotate.specs.declared.states.KeptState.{KeptState}
use Rattle.cx_keyserver.specs.cx_sealed.specs.Records.{connection_secret_layout}
use Rattle.cx_keyserver.specs.cx_sealed.specs.declared.service_ticket.ServiceTicket.{ServiceTicket}
use Rattle.cx_login.specs.cx_steps.specs.declared.seals.DrawMark.TheVariants as draw
use Rattle.cx_login.specs.cx_steps.specs.declared.seals.SealEntry.{SealEntry}
use Rattle.cx_login.specs.cx_steps.specs.declared.seals.SealEntry.TheVariants.{Sealed, Drawn}
use Rattle.cx_login.specs.cx_wire.specs.Logins.{login_done_layout}
use Rattle.cx_login.specs.cx_wire.specs.declared.logins.LoginDone.{LoginDone}
use Rattle.cx_rules.specs.KeptStates.{changed}
use Rattle.cx_rules.specs.Tickets.{issued_entry, issued_for, rotation_drawn, services_for, ticket_part, ticket_seals}
use Rattle.cx_rules.specs.declared.verdicts.HandedOut.{HandedOut}
use Rattle.cx_rules.specs.declared.verdicts.Verdict.{Verdict}
use Rattle.cx_rules.specs.declared.verdicts.Verdict.TheVariants.{Denied, Granted}

-- when a login comes: the state that was saved last, and the reading and the draw of the event
pub record Occasion : Type 0 where
  pub saved : KeptState
  pub reading : ℕ
  pub draw : List ℕ

-- who logs in: an entity that proved itself, the global id that it gets, the services for which it asks tickets, and what was logged until then
pub record Entrant : Type 0 where
  pub name : Name
  pub gid : ℕ
  pub asked : ℕ
  pub seals : List SealEntry

abbrev pub entrant : Name → ℕ → ℕ → List SealEntry → Entrant
entrant name gid asked seals = record { name = name; gid = gid; asked = asked; seals = seals }

-- what comes of a login: the verdict, and the key server behind it
pub record Decided : Type 0 where
  pub verdict : Verdict
  pub server : Server

abbrev pub decided : Server → Verdict → Decided
decided server verdict = record { verdict = verdict; server = server }

abbrev pub denied : Server → LoginFault → List SealEntry → Decided
denied server why seals = decided server (Denied why seals)

-- ---- which global id

-- a global id, and the key server behind it
pub record Numbered : Type 0 where
  pub server : Server
  pub gid : ℕ

-- the next global id, while there is one
abbrev pub next_number : Server → Result Numbered LoginFault
next_number server =
    if server.state.next_gid == 2 ^ 64 - 1 then Err login.GidsSpent
    else Ok (record {
      server = record server { state = record server.state { next_gid = server.state.next_gid + 1 } };
      gid = server.state.next_gid;
    })

-- which global id the entity gets: the one that it keeps, or the next; or none, where it would keep one that it may not
abbrev pub numbered : Server → Reclaim → Result Numbered LoginFault
numbered server (reclaim.Kept gid) = Ok (record { server = server; gid = gid })
numbered server reclaim.Fresh = next_number server
numbered server (reclaim.Denied gid) = Err (login.Reclaim gid)

-- ---- what is handed out

-- these tickets, and the sealed secret of the connection
abbrev pub login_done : List Ticket → List ℕ → LoginDone
login_done tickets connection_secret = record { tickets = map ticket_part tickets; connection_secret = connection_secret }

-- the payload of AUTH_DONE: the global id, the secure mode, and a LoginDone
abbrev pub done_payload : ℕ → LoginDone → List ℕ
done_payload gid done = auth_done_layout.form.text (record { gid = gid; mode = 2; payload = login_done_layout.form.text done })

-- the content of a sealed connection secret
abbrev pub secret_content : List ℕ → List ℕ
secret_content secret = connection_secret_layout.form.text (record { secret = secret })

-- the secret of a connection was drawn for an entity, and sealed by the session key of its ticket for AUTH
abbrev pub secret_seals : Name → List ℕ → List ℕ → List SealEntry
secret_seals name session secret =
    Drawn (draw.Connection secret name) ∷ Sealed (record { key = session; kind = Session; content = secret_content secret }) ∷ []

-- what is logged of the tickets, which tell the entity by its own secret, and of the secret of the connection
abbrev pub handed_seals : Server → Name → List ℕ → List ℕ → List ℕ → List Ticket → List SealEntry
handed_seals server name own session secret tickets =
    flat_map (ticket_seals server own session) tickets ++ secret_seals name session secret

-- what is entered: that the state was saved, where it was, and then each ticket
abbrev pub login_entries : Option KeptState → List Ticket → List Entry
login_entries None tickets = map issued_entry tickets
login_entries (Some state) tickets = entry.Saved state.next_gid ∷ map issued_entry tickets

-- the connection secret is drawn and sealed by the session key of the ticket for AUTH; the state is saved where it has changed
abbrev pub handed_out : Occasion → Server → Entrant → List ℕ → List Ticket → HandedOut
handed_out at server e own tickets =
    let session = session_of Auth at.draw in
    let secret = connection_of at.draw in
    let save = changed at.saved server.state in
    record {
      name = e.name;
      gid = e.gid;
      session = session;
      secret = secret;
      payload = done_payload e.gid (login_done tickets (sealed session (secret_content secret)));
      seals = e.seals;
      sealed = handed_seals server e.name own session secret tickets;
      save = save;
      entries = login_entries save tickets;
    }

-- ---- step by step

abbrev pub issues : Occasion → Server → Entrant → List ℕ → Result (List Ticket) LoginFault → Decided
issues at server e own (Err why) = denied server why e.seals
issues at server e own (Ok tickets) = decided server (Granted (handed_out at server e own tickets))

-- the ticket that an entrant asks for a service
abbrev pub asking_for : Occasion → Name → ℕ → EntityType → Asked
asking_for at name gid service = asking name service gid (session_of Auth at.draw) at.reading at.draw

-- the ticket for AUTH is issued, and those for the asked services for which the entity has capabilities; it is told of the first by its own
-- secret, where the keyring has it
abbrev pub issues_to : Occasion → Server → Entrant → Option Key → Decided
issues_to at server e None = denied server login.UnknownEntity e.seals
issues_to at server e (Some own) =
    issues at server e own.secret (issued_for server (asking_for at e.name e.gid) (services_for e.asked))

abbrev pub key_of : Server → Name → Option Key
key_of server name = option_map (λ entry. entry.key) (find (is_named name) server.ring)

abbrev pub numbers : Occasion → Server → Proven → List SealEntry → Result Numbered LoginFault → Decided
numbers at server proven seals (Err why) = denied server why seals
numbers at server proven seals (Ok n) =
    issues_to at n.server (entrant proven.offer.name n.gid proven.ask.other_keys seals) (key_of n.server proven.offer.name)

-- the old ticket, which was opened, decides whether the global id is kept
abbrev pub reclaims : Occasion → Server → ℕ → Proven → List SealEntry → Unlocked ServiceTicket → Decided
reclaims at server hello_gid proven seals old =
    numbers at server proven (seals ++ old.seals)
    (numbered server (reclaimed hello_gid proven.ask.version (kept_gid proven.offer.name at.reading old.value)))

-- the secrets are rotated, whatever comes of the login
abbrev pub rotates : Occasion → Server → ℕ → Proven → Decided
rotates at server hello_gid proven =
    let rotated = rotated_server at.reading at.draw server in
    reclaims at rotated hello_gid proven
    (proof_found proven.offer proven.ask.client_challenge ∷ rotation_drawn at.reading at.draw server.state)
    (old_ticket rotated.state.auth proven.ask.old_ticket)
