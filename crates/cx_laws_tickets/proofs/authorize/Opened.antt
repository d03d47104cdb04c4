-- What opens where an authorizer is judged, the first one and the second; and the ticket that is shown where it is judged right.
use Rattle.std.proofs.Common.{◌≡◌, ℕ, Bool, true, false, List, [], ◌∷◌, Option, Some, None, Ok, Err, refl, subst}
use Rattle.std.specs.Prelude.{◌&&◌, ◌==◌, if◌then◌else◌}
use Rattle.std.specs.List.{AllByRecursion}
use Rattle.cx_run.specs.cx_authorize.specs.Daemon.{Awaited}
use Rattle.cx_run.specs.cx_authorize.specs.Judging.{Judged, behind, judged_by_fault, judged_by_key, judged_by_payload, judged_by_service, judged_by_ticket, judged_first, judged_second, judged_with, refused_as}
use Rattle.cx_run.specs.cx_authorize.specs.Verdict.{answering, fault_of, raised, with_blob}
use Rattle.cx_run.specs.cx_authorize.specs.declared.refusals.AuthFault.{AuthFault}
use Rattle.cx_run.specs.cx_authorize.specs.declared.refusals.AuthFault.TheVariants as fault
use Rattle.cx_run.specs.cx_authorize.specs.declared.refusals.AuthRefusal.{AuthRefusal}
use Rattle.cx_run.specs.cx_authorize.specs.declared.refusals.AuthRefusal.TheVariants as refusal
use Rattle.cx_base.specs.Names.{same_kind}
use Rattle.cx_base.specs.declared.kinds.EntityType.{EntityType}
use Rattle.cx_cbc.specs.Opened.{opened}
use Rattle.cx_control.specs.Calls.{stop_of}
use Rattle.cx_enc.specs.Whole.{start}
use Rattle.cx_journal.specs.declared.premises.KeyKind.TheVariants as kind
use Rattle.cx_laws_keys.specs.cx_login.specs.Opening.{generation_key}
use Rattle.cx_laws_keys.specs.cx_login.specs.Unlocking.{unlocked_as}
use Rattle.cx_rotate.specs.declared.views.View.{View}
use Rattle.cx_run.specs.cx_rules_session.specs.Complete.{judged_by}
use Rattle.cx_laws_keys.specs.cx_sealed.specs.Records.{authorize_layout, service_ticket_layout}
use Rattle.cx_laws_keys.specs.cx_sealed.specs.Unsealing.{spelled_by, unsealed_as}
use Rattle.cx_laws_keys.specs.cx_sealed.specs.declared.authorize.Authorize.{Authorize}
use Rattle.cx_laws_keys.specs.cx_sealed.specs.declared.service_ticket.ServiceTicket.{ServiceTicket}
use Rattle.cx_laws_keys.specs.cx_steps.specs.declared.seals.SealEntry.{SealEntry}
use Rattle.cx_laws_keys.specs.cx_steps.specs.declared.seals.SealEntry.TheVariants as seal
use Rattle.cx_laws_keys.specs.cx_wire.specs.Logins.{authorizer_layout}
use Rattle.cx_laws_keys.specs.cx_wire.specs.declared.authorizers.Authorizer.{Authorizer}

-- something opened
abbrev pub IsOpening : SealEntry → Type 0
IsOpening (seal.Opened mark) = Unit {0}
IsOpening _ = ⊥

-- this ticket opened first, under the key of a generation that the view lists
pub record ShowsTicket (view : View) (ticket : ServiceTicket) (seals : List SealEntry) : Type 0 where
  pub id : ℕ
  pub key : List ℕ
  pub known : generation_key view.generations id ≡ Some key
  pub content : List ℕ
  pub says : spelled_by service_ticket_layout.form content ≡ Some ticket
  pub rest : List SealEntry
  pub opened : seals ≡ seal.Opened (record { key = key; kind = kind.Service; content = content }) ∷ rest

module _ (service : EntityType) (challenge : Option ℕ) (view : View) (reading : ℕ) where
  -- all that is logged opened, and where it is judged right the ticket opened first
  record Opens {X : Type 0} (j : Judged AuthRefusal X) (part : X → ServiceTicket) : Type 0 where
    all : AllByRecursion IsOpening j.seals
    ticket : (t : ServiceTicket) → judged_by part j.value ≡ Ok t → ShowsTicket view t j.seals

  module _ (a : Authorizer) where
    -- the ticket is the one that opened
    same-ticket : (asked : Option ℕ) (ticket : ServiceTicket) (value : Option Authorize) (t : ServiceTicket)
        → judged_by (λ shown. shown.ticket) (with_blob a.ticket.blob (answering asked ticket value)) ≡ Ok t → ticket ≡ t
    same-ticket asked ticket None t is = absurd cc
    same-ticket None ticket (Some authorize) t is = cc
    same-ticket (Some c) ticket (Some authorize) t is = by_test (authorize.have_challenge && (authorize.server_challenge_plus_one == raised c)) is
      where
        by_test : (right : Bool) → judged_by (λ shown. shown.ticket) (with_blob a.ticket.blob (if right then Ok (record { ticket = ticket; authorize = authorize })
            else Err (fault.ChallengeWrong (raised c) authorize.server_challenge_plus_one))) ≡ Ok t → ticket ≡ t
        by_test true found = cc
        by_test false found = absurd cc

    module _ (key : List ℕ) (known : generation_key view.generations a.ticket.generation ≡ Some key) where
      abbrev first : List ℕ → List SealEntry
      first content = seal.Opened (record { key = key; kind = kind.Service; content = content }) ∷ []

      shows : (content : List ℕ) (ticket t : ServiceTicket) (rest : List SealEntry) → spelled_by service_ticket_layout.form content ≡ Some ticket → ticket ≡ t
          → ShowsTicket view t (seal.Opened (record { key = key; kind = kind.Service; content = content }) ∷ rest)
      shows content ticket t rest says same =
          subst (λ (x : ServiceTicket). ShowsTicket view x (seal.Opened (record { key = key; kind = kind.Service; content = content }) ∷ rest)) same
          (record { id = a.ticket.generation; key = key; known = known; content = content; says = says; rest = rest; opened = refl })

      fault-opens : (content : List ℕ) (ticket : ServiceTicket) → spelled_by service_ticket_layout.form content ≡ Some ticket → (why : Option AuthFault)
          → Opens (judged_with a.ticket.blob (behind (first content) (judged_by_fault (record { service = service; challenge = challenge; view = view; reading = reading }) a ticket why)))
          (λ shown. shown.ticket)
      fault-opens content ticket says (Some why) = record { all = (tt, tt); ticket = λ t found. absurd cc }
      fault-opens content ticket says None = by_answer (opened ticket.session a.authorize)
        where
          by_answer : (o : Option (List ℕ)) → Opens (judged_with a.ticket.blob (behind (first content) (
              let u = unlocked_as kind.Session ticket.session (unsealed_as authorize_layout.form o) in
              record { seals = u.seals; value = answering challenge ticket u.value }))) (λ shown. shown.ticket)
          by_answer None = record { all = (tt, tt); ticket = λ t found. absurd cc }
          by_answer (Some answer) = record {
            all = (tt, (tt, tt));
            ticket = λ t found. shows content ticket t (seal.Opened (record { key = ticket.session; kind = kind.Session; content = answer }) ∷ []) says
                (same-ticket challenge ticket (spelled_by authorize_layout.form answer) t found);
          }

      value-opens : (content : List ℕ) (v : Option ServiceTicket) → spelled_by service_ticket_layout.form content ≡ v
          → Opens (judged_with a.ticket.blob (behind (first content) (judged_by_ticket (record { service = service; challenge = challenge; view = view; reading = reading }) a v)))
          (λ shown. shown.ticket)
      value-opens content None says = record { all = (tt, tt); ticket = λ t found. absurd cc }
      value-opens content (Some ticket) says = fault-opens content ticket says (fault_of reading a ticket)

      blob-opens : (o : Option (List ℕ)) → Opens (judged_with a.ticket.blob (let u = unlocked_as kind.Service key (unsealed_as service_ticket_layout.form o) in
          behind u.seals (judged_by_ticket (record { service = service; challenge = challenge; view = view; reading = reading }) a u.value))) (λ shown. shown.ticket)
      blob-opens None = record { all = tt; ticket = λ t found. absurd cc }
      blob-opens (Some content) = value-opens content (spelled_by service_ticket_layout.form content) refl

    key-opens : (key : Option (List ℕ)) → generation_key view.generations a.ticket.generation ≡ key
        → Opens (judged_with a.ticket.blob (judged_by_key (record { service = service; challenge = challenge; view = view; reading = reading }) a key)) (λ shown. shown.ticket)
    key-opens None known = record { all = tt; ticket = λ t found. absurd cc }
    key-opens (Some key) known = blob-opens key known (opened key a.ticket.blob)

    service-opens : Opens (judged_by_service (record { service = service; challenge = challenge; view = view; reading = reading }) a) (λ shown. shown.ticket)
    service-opens = by_test (same_kind service a.service)
      where
        by_test : (same : Bool) → Opens (if same then judged_with a.ticket.blob (judged_by_key (record { service = service; challenge = challenge; view = view; reading = reading }) a
            (generation_key view.generations a.ticket.generation)) else refused_as (refusal.WrongService service a.service)) (λ shown. shown.ticket)
        by_test true = key-opens (generation_key view.generations a.ticket.generation) refl
        by_test false = record { all = tt; ticket = λ t found. absurd cc }

  payload-opens : (spelled : Option Authorizer) (place : ℕ)
      → Opens (judged_by_payload (record { service = service; challenge = challenge; view = view; reading = reading }) spelled place) (λ shown. shown.ticket)
  payload-opens None place = record { all = tt; ticket = λ t found. absurd cc }
  payload-opens (Some a) place = service-opens a

  pub judged-all : (spelled : Option Authorizer) (place : ℕ)
      → AllByRecursion IsOpening (judged_by_payload (record { service = service; challenge = challenge; view = view; reading = reading }) spelled place).seals
  judged-all spelled place = (payload-opens spelled place).all

  pub judged-shows : (spelled : Option Authorizer) (place : ℕ) (t : ServiceTicket)
      → judged_by (λ shown. shown.ticket) (judged_by_payload (record { service = service; challenge = challenge; view = view; reading = reading }) spelled place).value ≡ Ok t
      → ShowsTicket view t (judged_by_payload (record { service = service; challenge = challenge; view = view; reading = reading }) spelled place).seals
  judged-shows spelled place = (payload-opens spelled place).ticket

pub first-all : (service : EntityType) (view : View) (reading : ℕ) (payload : List ℕ) → AllByRecursion IsOpening (judged_first service view reading payload).seals
first-all service view reading payload = judged-all service None view reading (spelled_by authorizer_layout.form payload) (stop_of (authorizer_layout.form.at (start payload)))

pub first-opened : (service : EntityType) (view : View) (reading : ℕ) (payload : List ℕ) (t : ServiceTicket)
    → judged_by (λ shown. shown.ticket) (judged_first service view reading payload).value ≡ Ok t → ShowsTicket view t (judged_first service view reading payload).seals
first-opened service view reading payload = judged-shows service None view reading (spelled_by authorizer_layout.form payload) (stop_of (authorizer_layout.form.at (start payload)))

pub second-all : (awaited : Awaited) (view : View) (reading : ℕ) (payload : List ℕ) → AllByRecursion IsOpening (judged_second awaited view reading payload).seals
second-all awaited view reading payload =
    judged-all awaited.service (Some awaited.challenge) view reading (spelled_by authorizer_layout.form payload) (stop_of (authorizer_layout.form.at (start payload)))

pub second-opened : (awaited : Awaited) (view : View) (reading : ℕ) (payload : List ℕ) (t : ServiceTicket)
    → judged_by (λ shown. shown.ticket) (judged_second awaited view reading payload).value ≡ Ok t → ShowsTicket view t (judged_second awaited view reading payload).seals
second-opened awaited view reading payload =
    judged-shows awaited.service (Some awaited.challenge) view reading (spelled_by authorizer_layout.form payload) (stop_of (authorizer_layout.form.at (start payload)))
