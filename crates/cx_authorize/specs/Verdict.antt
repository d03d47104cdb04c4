-- The verdict on an authorizer at a daemon ("detailed cephx protocol": the daemon opens the ticket by a rotating secret of its
-- service, and the authorizer by the ticket's session key), one chain of causes for the first authorizer and the second.
use Rattle.std.specs.Prelude.{ℕ, ◌≡◌, ◌==◌, ◌+◌, ◌%◌, ◌^◌, ◌&&◌, ◌⊎◌, not, nat_le, List, Option, Some, None, Result, Ok, Err, MatchBool, if◌then◌else◌}
use Rattle.cx_base.specs.Names.{same_kind}
use Rattle.cx_enc.specs.Whole.{Spells}
use Rattle.cx_wire.specs.cx_control.specs.Calls.{IsRefusedFor}
use Rattle.cx_wire.specs.cx_control.specs.declared.refusals.WireRefusal.TheVariants as wire
use Rattle.cx_sealed.specs.Records.{service_ticket_layout, authorize_layout}
use Rattle.cx_sealed.specs.declared.service_ticket.ServiceTicket.{ServiceTicket}
use Rattle.cx_sealed.specs.declared.authorize.Authorize.{Authorize}
use Rattle.cx_wire.specs.Logins.{authorizer_layout}
use Rattle.cx_wire.specs.declared.authorizers.Authorizer.{Authorizer}
use Rattle.cx_login.specs.Opening.{IsTried, generation_key}
use Rattle.cx_authorize.specs.declared.refusals.AuthFault.{AuthFault}
use Rattle.cx_authorize.specs.declared.refusals.AuthFault.TheVariants.{UnknownGeneration, TicketUnopened, GidDiffers, Expired, AuthorizerUnopened, ChallengeWrong}
use Rattle.cx_authorize.specs.declared.refusals.AuthRefusal.{AuthRefusal}
use Rattle.cx_authorize.specs.declared.refusals.AuthRefusal.TheVariants.{Malformed, WrongService, Ticket}
use Rattle.cx_authorize.specs.declared.judging.Terms.{Terms}
use Rattle.cx_authorize.specs.declared.judging.Shown.{Shown}

-- a challenge or a nonce plus one, modulo 2^64
abbrev pub raised : ℕ → ℕ
raised n = (n + 1) % 2 ^ 64

-- The Authorize that opened: a second authorizer has to answer the daemon's challenge.
abbrev pub answering : Option ℕ → ServiceTicket → Option Authorize → Result Shown AuthFault
answering challenge ticket None = Err AuthorizerUnopened
answering None ticket (Some authorize) = Ok (record { ticket = ticket; authorize = authorize })
answering (Some challenge) ticket (Some authorize) =
    if authorize.have_challenge && (authorize.server_challenge_plus_one == raised challenge)
    then Ok (record { ticket = ticket; authorize = authorize })
    else Err (ChallengeWrong (raised challenge) authorize.server_challenge_plus_one)

-- the claimed global id isn't the ticket's, or the ticket doesn't expire after the reading
abbrev pub fault_of : ℕ → Authorizer → ServiceTicket → Option AuthFault
fault_of reading a ticket =
    if not (a.gid == ticket.gid)
    then Some (GidDiffers a.gid ticket.gid)
    else (if nat_le ticket.expires reading then Some (Expired ticket.expires reading) else None)

-- by the ticket's fault, if it has one; else by what the authorizer opens to under its session key
abbrev pub IsJudgedByFault : Terms → Authorizer → ServiceTicket → Option AuthFault → Result Shown AuthFault → Type 0
IsJudgedByFault terms a ticket (Some fault) judged = judged ≡ Err fault
IsJudgedByFault terms a ticket None judged =
    (authorize : Option Authorize) × IsTried authorize_layout.form ticket.session a.authorize authorize
    × (judged ≡ answering terms.challenge ticket authorize)

-- by the ticket to which the blob opened
abbrev pub IsJudgedByTicket : Terms → Authorizer → Option ServiceTicket → Result Shown AuthFault → Type 0
IsJudgedByTicket terms a None judged = judged ≡ Err (TicketUnopened a.ticket.generation)
IsJudgedByTicket terms a (Some ticket) judged = IsJudgedByFault terms a ticket (fault_of terms.reading a ticket) judged

-- by the key of the ticket's generation, where the view has it
abbrev pub IsJudgedByKey : Terms → Authorizer → Option (List ℕ) → Result Shown AuthFault → Type 0
IsJudgedByKey terms a None judged = judged ≡ Err (UnknownGeneration a.ticket.generation)
IsJudgedByKey terms a (Some key) judged =
    (ticket : Option ServiceTicket) × IsTried service_ticket_layout.form key a.ticket.blob ticket × IsJudgedByTicket terms a ticket judged

-- a refusal for a fault carries the ticket's blob
abbrev pub with_blob : List ℕ → Result Shown AuthFault → Result Shown AuthRefusal
with_blob blob (Ok shown) = Ok shown
with_blob blob (Err fault) = Err (Ticket fault blob)

-- by the service for which the ticket is shown
abbrev pub IsJudgedByService : Terms → Authorizer → Result Shown AuthRefusal → Type 0
IsJudgedByService terms a verdict =
    MatchBool (same_kind terms.service a.service)
    ((judged : Result Shown AuthFault) × IsJudgedByKey terms a (generation_key terms.view.generations a.ticket.generation) judged × (verdict ≡ with_blob a.ticket.blob judged))
    (verdict ≡ Err (WrongService terms.service a.service))

-- the verdict on the authorizer that a payload spells, or that it spells none
abbrev pub IsVerdict : Terms → List ℕ → Result Shown AuthRefusal → Type 0
IsVerdict terms payload verdict =
    ((a : Authorizer) × Spells authorizer_layout.form payload a × IsJudgedByService terms a verdict)
    ⊎ ((place : ℕ) × IsRefusedFor authorizer_layout.form payload (wire.Malformed place) × (verdict ≡ Err (Malformed place)))
