-- A ticket that is refused tells what came of its blob.
use Rattle.std.proofs.Common.{◌≡◌, ◌==◌, ℕ, Bool, true, false, List, Option, Some, None, Result, Ok, Err, refl, subst, eq-eqb, leb-true, [], ◌∷◌, ap, ◌∙◌}
use Rattle.std.specs.Prelude.{nat_le, not, ◌&&◌, if◌then◌else◌}
use Rattle.cx_run.specs.cx_authorize.specs.Daemon.{Awaited}
use Rattle.cx_run.specs.cx_authorize.specs.Judging.{Judged, judged_by_fault, judged_by_key, judged_by_payload, judged_by_service, judged_by_ticket, judged_first, judged_second, judged_with, refused_as, behind}
use Rattle.cx_run.specs.cx_authorize.specs.Verdict.{answering, fault_of, raised, with_blob}
use Rattle.cx_run.specs.cx_authorize.specs.declared.refusals.AuthFault.TheVariants as fault
use Rattle.cx_run.specs.cx_authorize.specs.declared.refusals.AuthRefusal.{AuthRefusal}
use Rattle.cx_run.specs.cx_authorize.specs.declared.refusals.AuthRefusal.TheVariants as refusal
use Rattle.cx_base.specs.Names.{same_kind}
use Rattle.cx_base.specs.declared.kinds.EntityType.{EntityType}
use Rattle.cx_control.specs.Calls.{stop_of}
use Rattle.cx_enc.specs.Whole.{start}
use Rattle.cx_journal.specs.declared.premises.KeyKind.TheVariants as kind
use Rattle.cx_laws_keys.specs.cx_login.specs.Opening.{generation_key}
use Rattle.cx_laws_keys.specs.cx_login.specs.Unlocking.{unlocked, unlocked_as}
use Rattle.cx_rotate.specs.declared.views.View.{View}
use Rattle.cx_run.specs.cx_rules_session.specs.Complete.{judged_by}
use Rattle.cx_run.specs.cx_rules_session.specs.IncomingLinks.{ticket_fault}
use Rattle.cx_laws_keys.specs.cx_sealed.specs.Records.{authorize_layout, service_ticket_layout}
use Rattle.cx_laws_keys.specs.cx_sealed.specs.Unsealing.{spelled_by, unsealed_as}
use Rattle.cx_laws_keys.specs.cx_sealed.specs.declared.authorize.Authorize.{Authorize}
use Rattle.cx_laws_keys.specs.cx_sealed.specs.declared.service_ticket.ServiceTicket.{ServiceTicket}
use Rattle.cx_laws_keys.specs.cx_wire.specs.Logins.{authorizer_layout}
use Rattle.cx_laws_keys.specs.cx_wire.specs.declared.authorizers.Authorizer.{Authorizer}
use Rattle.cx_laws_tickets.specs.authorize.Admission.{FaultTells}
use Rattle.cx_cbc.specs.Opened.{opened}
use Rattle.cx_laws_keys.specs.cx_steps.specs.declared.seals.SealEntry.{SealEntry}
use Rattle.cx_laws_keys.specs.cx_steps.specs.declared.seals.SealEntry.TheVariants as seal

-- what a refusal tells
abbrev pub RefusalTells : View → ℕ → AuthRefusal → List SealEntry → Type 0
RefusalTells view reading (refusal.Ticket why blob) seals = FaultTells view reading (ticket_fault why) blob seals
RefusalTells view reading _ seals = Unit {0}

module _ (service : EntityType) (challenge : Option ℕ) (view : View) (reading : ℕ) where
  -- each refusal tells it
  abbrev Tells : {X : Type 0} → Judged AuthRefusal X → (X → ServiceTicket) → Type 0
  Tells j part = (r : AuthRefusal) → judged_by part j.value ≡ Err r → RefusalTells view reading r j.seals

  abbrev is_refused : AuthRefusal → Result ServiceTicket AuthRefusal
  is_refused r = Err r

  -- this refusal does
  tells-as : (made r : AuthRefusal) (seals : List SealEntry) → is_refused made ≡ is_refused r → RefusalTells view reading made seals → RefusalTells view reading r seals
  tells-as made r seals is h = let same : made ≡ r = cc in subst (λ (x : AuthRefusal). RefusalTells view reading x seals) same h

  module _ (a : Authorizer) where
    abbrev blob_value : List ℕ → Option ServiceTicket
    blob_value key = (unlocked service_ticket_layout.form kind.Service key a.ticket.blob).value

    -- what was sealed beside the ticket
    beside-tells : (asked : Option ℕ) (ticket : ServiceTicket) (value : Option Authorize) (r : AuthRefusal) (seals : List SealEntry)
        → judged_by (λ shown. shown.ticket) (with_blob a.ticket.blob (answering asked ticket value)) ≡ Err r → RefusalTells view reading r seals
    beside-tells asked ticket None r seals is = tells-as (refusal.Ticket fault.AuthorizerUnopened a.ticket.blob) r seals is tt
    beside-tells None ticket (Some authorize) r seals is = absurd cc
    beside-tells (Some c) ticket (Some authorize) r seals is = by_test (authorize.have_challenge && (authorize.server_challenge_plus_one == raised c)) is
      where
        by_test : (right : Bool) → judged_by (λ shown. shown.ticket) (with_blob a.ticket.blob (if right then Ok (record { ticket = ticket; authorize = authorize })
            else Err (fault.ChallengeWrong (raised c) authorize.server_challenge_plus_one))) ≡ Err r → RefusalTells view reading r seals
        by_test true found = absurd cc
        by_test false found = tells-as (refusal.Ticket (fault.ChallengeWrong (raised c) authorize.server_challenge_plus_one) a.ticket.blob) r seals found tt

    -- what a content says that the blob opens to under a key
    value-of : (key content : List ℕ) (v : Option ServiceTicket) → opened key a.ticket.blob ≡ Some content → spelled_by service_ticket_layout.form content ≡ v → blob_value key ≡ v
    value-of key content v shown says =
        ap (λ (o : Option (List ℕ)). (unlocked_as kind.Service key (unsealed_as service_ticket_layout.form o)).value) shown ∙ says

    module _ (key : List ℕ) (known : generation_key view.generations a.ticket.generation ≡ Some key) where
      abbrev first : List ℕ → List SealEntry
      first content = seal.Opened (record { key = key; kind = kind.Service; content = content }) ∷ []

      ticket-tells : (content : List ℕ) (ticket : ServiceTicket) → opened key a.ticket.blob ≡ Some content → spelled_by service_ticket_layout.form content ≡ Some ticket
          → Tells (judged_with a.ticket.blob (behind (first content) (judged_by_fault (record { service = service; challenge = challenge; view = view; reading = reading }) a ticket
          (fault_of reading a ticket)))) (λ shown. shown.ticket)
      ticket-tells content ticket shown says = by_tests (a.gid == ticket.gid) refl (nat_le ticket.expires reading) refl
        where
          by_tests : (same : Bool) → (a.gid == ticket.gid) ≡ same → (late : Bool) → nat_le ticket.expires reading ≡ late
              → Tells (judged_with a.ticket.blob (behind (first content) (judged_by_fault (record { service = service; challenge = challenge; view = view; reading = reading }) a ticket
              (if not same then Some (fault.GidDiffers a.gid ticket.gid) else (if late then Some (fault.Expired ticket.expires reading) else None))))) (λ shown. shown.ticket)
          by_tests false other late is r found =
              tells-as (refusal.Ticket (fault.GidDiffers a.gid ticket.gid) a.ticket.blob) r _ found
              (a.ticket.generation, key, ticket, known, value-of key content (Some ticket) shown says, refl, λ (e : a.gid ≡ ticket.gid). differ (eq-eqb a.gid ticket.gid e) other)
            where
              differ : {t : Bool} → t ≡ true → t ≡ false → ⊥
              differ x y = cc
          by_tests true other true is r found =
              tells-as (refusal.Ticket (fault.Expired ticket.expires reading) a.ticket.blob) r _ found
              (a.ticket.generation, key, content, ticket, [], known, refl, shown, says, refl, refl, leb-true ticket.expires reading is)
          by_tests true other false is r found =
              beside-tells challenge ticket (unlocked authorize_layout.form kind.Session ticket.session a.authorize).value r _ found

      content-tells : (content : List ℕ) (v : Option ServiceTicket) → opened key a.ticket.blob ≡ Some content → spelled_by service_ticket_layout.form content ≡ v
          → Tells (judged_with a.ticket.blob (behind (first content) (judged_by_ticket (record { service = service; challenge = challenge; view = view; reading = reading }) a v)))
          (λ shown. shown.ticket)
      content-tells content None shown says r found =
          tells-as (refusal.Ticket (fault.TicketUnopened a.ticket.generation) a.ticket.blob) r _ found (key, known, value-of key content None shown says)
      content-tells content (Some ticket) shown says r found = ticket-tells content ticket shown says r found

      blob-tells : (o : Option (List ℕ)) → opened key a.ticket.blob ≡ o
          → Tells (judged_with a.ticket.blob (let u = unlocked_as kind.Service key (unsealed_as service_ticket_layout.form o) in
          behind u.seals (judged_by_ticket (record { service = service; challenge = challenge; view = view; reading = reading }) a u.value))) (λ shown. shown.ticket)
      blob-tells None shown r found =
          tells-as (refusal.Ticket (fault.TicketUnopened a.ticket.generation) a.ticket.blob) r _ found
          (key, known, ap (λ (o : Option (List ℕ)). (unlocked_as kind.Service key (unsealed_as service_ticket_layout.form o)).value) shown)
      blob-tells (Some content) shown r found = content-tells content (spelled_by service_ticket_layout.form content) shown refl r found

    key-tells : (key : Option (List ℕ)) → generation_key view.generations a.ticket.generation ≡ key
        → Tells (judged_with a.ticket.blob (judged_by_key (record { service = service; challenge = challenge; view = view; reading = reading }) a key)) (λ shown. shown.ticket)
    key-tells None known r found = tells-as (refusal.Ticket (fault.UnknownGeneration a.ticket.generation) a.ticket.blob) r _ found known
    key-tells (Some key) known r found = blob-tells key known (opened key a.ticket.blob) refl r found

    service-tells : Tells (judged_by_service (record { service = service; challenge = challenge; view = view; reading = reading }) a) (λ shown. shown.ticket)
    service-tells = by_test (same_kind service a.service)
      where
        by_test : (same : Bool) → Tells (if same then judged_with a.ticket.blob (judged_by_key (record { service = service; challenge = challenge; view = view; reading = reading }) a
            (generation_key view.generations a.ticket.generation)) else refused_as (refusal.WrongService service a.service)) (λ shown. shown.ticket)
        by_test true r found = key-tells (generation_key view.generations a.ticket.generation) refl r found
        by_test false r found = tells-as (refusal.WrongService service a.service) r _ found tt

  pub payload-tells : (spelled : Option Authorizer) (place : ℕ)
      → Tells (judged_by_payload (record { service = service; challenge = challenge; view = view; reading = reading }) spelled place) (λ shown. shown.ticket)
  payload-tells None place r found = tells-as (refusal.Malformed place) r _ found tt
  payload-tells (Some a) place r found = service-tells a r found

pub first-tells : (service : EntityType) (view : View) (reading : ℕ) (payload : List ℕ) (r : AuthRefusal)
    → judged_by (λ shown. shown.ticket) (judged_first service view reading payload).value ≡ Err r → RefusalTells view reading r (judged_first service view reading payload).seals
first-tells service view reading payload =
    payload-tells service None view reading (spelled_by authorizer_layout.form payload) (stop_of (authorizer_layout.form.at (start payload)))

pub second-tells : (awaited : Awaited) (view : View) (reading : ℕ) (payload : List ℕ) (r : AuthRefusal)
    → judged_by (λ shown. shown.ticket) (judged_second awaited view reading payload).value ≡ Err r → RefusalTells view reading r (judged_second awaited view reading payload).seals
second-tells awaited view reading payload =
    payload-tells awaited.service (Some awaited.challenge) view reading (spelled_by authorizer_layout.form payload) (stop_of (authorizer_layout.form.at (start payload)))
