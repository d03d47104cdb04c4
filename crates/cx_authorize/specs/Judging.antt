-- What comes of an authorizer at a daemon, as a function: the verdict, and what opened on the way, as entries of the log, in order
-- ("detailed cephx protocol": the ticket opens under a generation of the service, the authorizer under the ticket's session key). What
-- opened is told also where a refusal follows.
use Rattle.std.specs.Prelude.{ℕ, ◌≡◌, ◌⊎◌, List, [], ◌++◌, Option, Some, None, Result, Ok, Err, if◌then◌else◌}
use Rattle.std.specs.declared.alloc.AllocError.{AllocError}
use Rattle.cx_base.specs.Names.{same_kind}
use Rattle.cx_base.specs.declared.kinds.EntityType.{EntityType}
use Rattle.cx_wire.specs.cx_control.specs.Calls.{stop_of}
use Rattle.cx_enc.specs.Whole.{start}
use Rattle.cx_journal.specs.declared.premises.KeyKind.TheVariants as kind
use Rattle.cx_rotate.specs.declared.views.View.{View}
use Rattle.cx_sealed.specs.Records.{service_ticket_layout, authorize_layout}
use Rattle.cx_sealed.specs.Unsealing.{spelled_by}
use Rattle.cx_sealed.specs.declared.service_ticket.ServiceTicket.{ServiceTicket}
use Rattle.cx_steps.specs.declared.seals.SealEntry.{SealEntry}
use Rattle.cx_wire.specs.Logins.{authorizer_layout}
use Rattle.cx_wire.specs.declared.authorizers.Authorizer.{Authorizer}
use Rattle.cx_login.specs.Opening.{generation_key}
use Rattle.cx_login.specs.Unlocking.{unlocked}
use Rattle.cx_authorize.specs.Verdict.{answering, fault_of, with_blob}
use Rattle.cx_authorize.specs.Daemon.{Awaited}
use Rattle.cx_authorize.specs.declared.refusals.AuthFault.{AuthFault}
use Rattle.cx_authorize.specs.declared.refusals.AuthFault.TheVariants.{UnknownGeneration, TicketUnopened}
use Rattle.cx_authorize.specs.declared.refusals.AuthRefusal.{AuthRefusal}
use Rattle.cx_authorize.specs.declared.refusals.AuthRefusal.TheVariants.{Malformed, WrongService, OutOfMemory}
use Rattle.cx_authorize.specs.declared.judging.Terms.{Terms}
use Rattle.cx_authorize.specs.declared.judging.Shown.{Shown}

-- what is judged, and what opened until then
pub record Judged (E X : Type 0) : Type 0 where
  pub seals : List SealEntry
  pub value : Result X E

-- a refusal before anything opens
abbrev pub refused_as : {E X : Type 0} → E → Judged E X
refused_as why = record { seals = []; value = Err why }

-- what is judged behind what opened before it
abbrev pub behind : {E X : Type 0} → List SealEntry → Judged E X → Judged E X
behind seals j = record { seals = seals ++ j.seals; value = j.value }

-- ---- the chain

-- by the ticket's fault, if it has one; else by what the authorizer opens to under its session key
abbrev pub judged_by_fault : Terms → Authorizer → ServiceTicket → Option AuthFault → Judged AuthFault Shown
judged_by_fault terms a ticket (Some fault) = refused_as fault
judged_by_fault terms a ticket None =
    let opened = unlocked authorize_layout.form kind.Session ticket.session a.authorize in
    record { seals = opened.seals; value = answering terms.challenge ticket opened.value }

-- by the ticket to which the blob opened
abbrev pub judged_by_ticket : Terms → Authorizer → Option ServiceTicket → Judged AuthFault Shown
judged_by_ticket terms a None = refused_as (TicketUnopened a.ticket.generation)
judged_by_ticket terms a (Some ticket) = judged_by_fault terms a ticket (fault_of terms.reading a ticket)

-- by the key of the ticket's generation, where the view has it
abbrev pub judged_by_key : Terms → Authorizer → Option (List ℕ) → Judged AuthFault Shown
judged_by_key terms a None = refused_as (UnknownGeneration a.ticket.generation)
judged_by_key terms a (Some key) =
    let opened = unlocked service_ticket_layout.form kind.Service key a.ticket.blob in
    behind opened.seals (judged_by_ticket terms a opened.value)

-- a refusal for a fault carries the ticket's blob
abbrev pub judged_with : List ℕ → Judged AuthFault Shown → Judged AuthRefusal Shown
judged_with blob j = record { seals = j.seals; value = with_blob blob j.value }

-- by the service for which the ticket is shown
abbrev pub judged_by_service : Terms → Authorizer → Judged AuthRefusal Shown
judged_by_service terms a =
    if same_kind terms.service a.service
    then judged_with a.ticket.blob (judged_by_key terms a (generation_key terms.view.generations a.ticket.generation))
    else refused_as (WrongService terms.service a.service)

-- the authorizer that a payload spells; or it spells none, and this is the place of the first field that can't be read, or where bytes are
-- left over
abbrev pub judged_by_payload : Terms → Option Authorizer → ℕ → Judged AuthRefusal Shown
judged_by_payload terms None place = refused_as (Malformed place)
judged_by_payload terms (Some a) place = judged_by_service terms a

abbrev pub judged : Terms → List ℕ → Judged AuthRefusal Shown
judged terms payload = judged_by_payload terms (spelled_by authorizer_layout.form payload) (stop_of (authorizer_layout.form.at (start payload)))

-- ---- the first authorizer and the second

-- by what a daemon of this service judges a first authorizer
abbrev pub first_terms : EntityType → View → ℕ → Terms
first_terms service view reading = record { service = service; challenge = None; view = view; reading = reading }

-- and a second one, which has to answer its challenge
abbrev pub second_terms : Awaited → View → ℕ → Terms
second_terms awaited view reading = record { service = awaited.service; challenge = Some awaited.challenge; view = view; reading = reading }

-- the verdict of a daemon of this service on a first authorizer
abbrev pub judged_first : EntityType → View → ℕ → List ℕ → Judged AuthRefusal Shown
judged_first service view reading payload = judged (first_terms service view reading) payload

-- the verdict of a daemon that awaits the answer to its challenge
abbrev pub judged_second : Awaited → View → ℕ → List ℕ → Judged AuthRefusal Shown
judged_second awaited view reading payload = judged (second_terms awaited view reading) payload

-- ---- what calls answer

-- the value is the one that is judged, and what opened is appended to the log; unless memory was wanting
abbrev pub Judges : {E X : Type 0} → Judged E X → List SealEntry → List SealEntry → Result (Result X E) AllocError → Type 0
Judges j old new (Ok value) = (value ≡ j.value) × (new ≡ old ++ j.seals)
Judges j old new (Err e) = Unit {0}

-- What is made of what passes, where the verdict lets it pass; else the refusal of the verdict. What opened is appended to the log in both
-- cases. Want of memory is free.
abbrev pub IsChecked : {A : Type 0} → Judged AuthRefusal Shown → (Shown → A → Type 0) → List SealEntry → List SealEntry → Result A AuthRefusal → Type 0
IsChecked j Passes old new (Ok made) = (shown : Shown) × (j.value ≡ Ok shown) × Passes shown made × (new ≡ old ++ j.seals)
IsChecked j Passes old new (Err why) = (why ≡ OutOfMemory) ⊎ ((j.value ≡ Err why) × (new ≡ old ++ j.seals))
