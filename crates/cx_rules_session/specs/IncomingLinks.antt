-- A daemon as acceptor, up to its own signature ("detailed cephx protocol": a client shows a ticket by an authorizer, the daemon challenges it,
-- and answers the second authorizer): the rows in which a daemon differs from the monitor, in the order of a connection. They read what the
-- daemon has as one that asks the monitor (its name, its address and the generations that it was told last), and change nothing of it.
use Rattle.std.specs.Prelude.{ℕ, Bool, List, [], ◌∷◌, ◌++◌, Result, Ok, Err}
use Rattle.cx_authorize.specs.Daemon.{Authority, Awaited}
use Rattle.cx_authorize.specs.Judging.{Judged, judged_first, judged_second}
use Rattle.cx_authorize.specs.declared.refusals.AuthFault.{AuthFault}
use Rattle.cx_authorize.specs.declared.refusals.AuthFault.TheVariants as fault
use Rattle.cx_authorize.specs.declared.refusals.AuthRefusal.{AuthRefusal}
use Rattle.cx_authorize.specs.declared.refusals.AuthRefusal.TheVariants as refusal
use Rattle.cx_authorize.specs.cx_cbc.specs.Envelope.{sealed}
use Rattle.cx_authorize.specs.cx_control.specs.Auth.{auth_done_layout, auth_reply_more_layout}
use Rattle.cx_authorize.specs.cx_control.specs.declared.auth.AuthRequestMore.{AuthRequestMore}
use Rattle.cx_rules.specs.cx_dice.specs.Draws.{challenge_of, connection_of}
use Rattle.cx_rules.specs.cx_frame.specs.declared.frame.Frame.{Frame}
use Rattle.cx_authorize.specs.cx_journal.specs.declared.entries.Entry.{Entry}
use Rattle.cx_authorize.specs.cx_journal.specs.declared.entries.Entry.TheVariants as entry
use Rattle.cx_authorize.specs.cx_journal.specs.declared.faults.BytesFault.{BytesFault}
use Rattle.cx_authorize.specs.cx_journal.specs.declared.faults.BytesFault.TheVariants.{Malformed}
use Rattle.cx_authorize.specs.cx_journal.specs.declared.outcomes.Reason.TheVariants as reason
use Rattle.cx_authorize.specs.cx_journal.specs.declared.outcomes.TicketFault.{TicketFault}
use Rattle.cx_authorize.specs.cx_journal.specs.declared.outcomes.TicketFault.TheVariants as told
use Rattle.cx_authorize.specs.cx_sealed.specs.declared.service_ticket.ServiceTicket.{ServiceTicket}
use Rattle.cx_rules.specs.cx_steps.specs.declared.seals.DrawMark.TheVariants as draw
use Rattle.cx_rules.specs.cx_steps.specs.declared.seals.SealEntry.{SealEntry}
use Rattle.cx_rules.specs.cx_steps.specs.declared.seals.SealEntry.TheVariants.{Drawn}
use Rattle.cx_authorize.specs.cx_wire.specs.Logins.{authorize_challenge_layout, authorize_reply_layout}
use Rattle.cx_rules.specs.Acceptor.{Stage, AwaitsProof, AwaitsSignature, Finished, denies_for, finished}
use Rattle.cx_rules.specs.Holdings.{MonClient}
use Rattle.cx_rules.specs.Payloads.{control}
use Rattle.cx_rules.specs.Rows.{Arrival, Row, goes_on, refuses_bytes, unless_refused}
use Rattle.cx_rules_session.specs.Envelopes.{authorize_challenge_content, authorize_reply_content, sends_holding, session_sealed}
use Rattle.cx_rules_session.specs.Kinds.{entered_before}

-- ---- a client

-- what a daemon keeps of a peer in a session, on its open link: the session's number and epoch, the client's cookie, whether the session ends
-- with its link, and the capabilities of its ticket
pub record Served : Type 0 where
  pub number : ℕ
  pub epoch : ℕ
  pub cookie : ℕ
  pub lossy : Bool
  pub caps : List ℕ

abbrev pub IncomingStage : Type 0
IncomingStage = Stage Awaited Authority Served

abbrev pub IncomingArrival : Type 0
IncomingArrival = Arrival MonClient IncomingStage

abbrev pub IncomingRow : Type 0
IncomingRow = Row MonClient IncomingStage

-- ---- what is judged of an authorizer

-- the daemon looked at its view for what came on a link
abbrev pub looked_entry : IncomingArrival → Entry
looked_entry a = entry.Looked (record { daemon = a.own.name; link = a.link.number; view = a.own.view })

-- a fault of a ticket, or of what was shown with it, as a journal tells it
abbrev pub ticket_fault : AuthFault → TicketFault
ticket_fault (fault.UnknownGeneration id) = told.UnknownGeneration id
ticket_fault (fault.TicketUnopened id) = told.TicketUnopened id
ticket_fault (fault.GidDiffers claimed sealed_for) = told.GidDiffers claimed sealed_for
ticket_fault (fault.Expired expires now) = told.Expired expires now
ticket_fault fault.AuthorizerUnopened = told.AuthorizerUnopened
ticket_fault (fault.ChallengeWrong expected got) = told.ChallengeWrong expected got

-- an authorizer that can't be read is refused, any other that doesn't pass denied; want of memory is no refusal of a definition
abbrev pub turns_away : IncomingArrival → List SealEntry → AuthRefusal → IncomingRow
turns_away a opened (refusal.Malformed place) = refuses_bytes a (Malformed place) opened
turns_away a opened (refusal.WrongService kept got) = denies_for a 13 (reason.WrongService kept got) opened
turns_away a opened (refusal.Ticket why blob) = denies_for a 13 (reason.Ticket (ticket_fault why) blob) opened
turns_away a opened refusal.OutOfMemory = refuses_bytes a (Malformed 0) opened

abbrev pub unless_turned_away : {X : Type 0} → IncomingArrival → List SealEntry → Result X AuthRefusal → (X → IncomingRow) → IncomingRow
unless_turned_away a opened (Ok shown) next = next shown
unless_turned_away a opened (Err why) next = turns_away a opened why

-- what is judged of an authorizer is gone on with, behind what opened; that the daemon looked is entered in each case
abbrev pub on_judged : {X : Type 0} → IncomingArrival → Judged AuthRefusal X → (X → IncomingRow) → IncomingRow
on_judged a judged next = entered_before (looked_entry a) (unless_turned_away a judged.seals judged.value next)

-- ---- the first authorizer, in AUTH_REQUEST

-- AUTH_REPLY_MORE: the challenge, sealed under the session key of the ticket
abbrev pub sealed_challenge_frame : List ℕ → ℕ → Frame
sealed_challenge_frame session challenge = control 4 auth_reply_more_layout.form
    (record { payload = authorize_challenge_layout.form.text (record { sealed = sealed session (authorize_challenge_content challenge) }) })

-- a challenge is drawn and sent, to whoever showed a ticket
abbrev pub challenges : IncomingArrival → List SealEntry → ServiceTicket → IncomingRow
challenges a opened ticket =
    let challenge = challenge_of a.draw in
    sends_holding a (AwaitsProof (record { service = a.own.name.kind; challenge = challenge }))
    (opened ++ Drawn (draw.Challenge challenge) ∷ [])
    (session_sealed ticket.session (authorize_challenge_content challenge) ∷ [])
    (sealed_challenge_frame ticket.session challenge)

abbrev pub on_first : IncomingArrival → List ℕ → IncomingRow
on_first a payload =
    let judged = judged_first a.own.name.kind a.own.view a.reading payload in
    on_judged a judged (λ shown. challenges a judged.seals shown.ticket)

-- ---- the second authorizer, in AUTH_REQUEST_MORE

-- AUTH_DONE: the global id of the ticket, mode 2, and the reply to the nonce with the secret of the connection, sealed under the session key
abbrev pub authorized_frame : ServiceTicket → ℕ → List ℕ → Frame
authorized_frame ticket nonce secret = control 6 auth_done_layout.form (record {
  gid = ticket.gid;
  mode = 2;
  payload = authorize_reply_layout.form.text (record { sealed = sealed ticket.session (authorize_reply_content nonce secret) });
})

-- what a daemon goes by from now on: the ticket, its view, and the reading
abbrev pub authority_of : IncomingArrival → ServiceTicket → Authority
authority_of a ticket = record { ticket = ticket; view = a.own.view; at = a.reading }

-- AUTH_DONE and AUTH_SIGNATURE are sent, where they can be
abbrev pub done_sent : IncomingArrival → List SealEntry → List SealEntry → Authority → Result Finished BytesFault → IncomingRow
done_sent a before held authority finishing = unless_refused a before finishing (λ done.
    goes_on a (AwaitsSignature done.secured authority) done.bytes (before ++ (held ++ done.seals)))

-- the secret of the connection is drawn for the entity of the ticket
abbrev pub authorizes : IncomingArrival → List SealEntry → ServiceTicket → ℕ → IncomingRow
authorizes a opened ticket nonce =
    let secret = connection_of a.draw in
    done_sent a (opened ++ Drawn (draw.Connection secret ticket.name) ∷ [])
    (session_sealed ticket.session (authorize_reply_content nonce secret) ∷ [])
    (authority_of a ticket) (finished a.link ticket.session secret (authorized_frame ticket nonce secret))

abbrev pub on_second : IncomingArrival → Awaited → List ℕ → IncomingRow
on_second a awaited payload =
    let judged = judged_second awaited a.own.view a.reading payload in
    on_judged a judged (λ shown. authorizes a judged.seals shown.ticket shown.authorize.nonce)

abbrev pub on_auth_request_more : IncomingArrival → Awaited → Result AuthRequestMore BytesFault → IncomingRow
on_auth_request_more a awaited read = unless_refused a [] read (λ more. on_second a awaited more.payload)
