-- A second authorizer that is judged right shows what it has to.
use Rattle.std.proofs.Common.{◌≡◌, ◌<◌, ◌++◌, ◌==◌, ℕ, Bool, true, false, List, [], ◌∷◌, Option, Some, None, Ok, Err, refl, ap, subst, eqb-true}
use Rattle.std.specs.Prelude.{nat_le, not, ◌&&◌, if◌then◌else◌}
use Rattle.std.proofs.lemmas.Bool.{and_parts, leb-false}
use Rattle.cx_base.specs.Names.{same_kind}
use Rattle.cx_control.specs.Calls.{stop_of}
use Rattle.cx_enc.specs.Whole.{start}
use Rattle.cx_run.specs.cx_authorize.specs.Daemon.{Awaited}
use Rattle.cx_run.specs.cx_authorize.specs.Judging.{Judged, behind, judged_by_fault, judged_by_key, judged_by_payload, judged_by_service, judged_by_ticket, judged_second, judged_with, refused_as, second_terms}
use Rattle.cx_run.specs.cx_authorize.specs.Verdict.{answering, fault_of, raised, with_blob}
use Rattle.cx_run.specs.cx_authorize.specs.declared.refusals.AuthFault.TheVariants as fault
use Rattle.cx_run.specs.cx_authorize.specs.declared.refusals.AuthRefusal.{AuthRefusal}
use Rattle.cx_run.specs.cx_authorize.specs.declared.refusals.AuthRefusal.TheVariants as refusal
use Rattle.cx_journal.specs.declared.premises.KeyKind.TheVariants as kind
use Rattle.cx_laws_keys.specs.cx_login.specs.Opening.{generation_key}
use Rattle.cx_laws_keys.specs.cx_login.specs.Unlocking.{unlocked_as}
use Rattle.cx_rotate.specs.declared.views.View.{View}
use Rattle.cx_cbc.specs.Opened.{opened}
use Rattle.cx_run.specs.cx_rules_session.specs.Complete.{judged_by}
use Rattle.cx_laws_keys.specs.cx_sealed.specs.Records.{authorize_layout, service_ticket_layout}
use Rattle.cx_laws_keys.specs.cx_sealed.specs.Unsealing.{spelled_by, unsealed_as}
use Rattle.cx_laws_keys.specs.cx_sealed.specs.declared.authorize.Authorize.{Authorize}
use Rattle.cx_laws_keys.specs.cx_sealed.specs.declared.service_ticket.ServiceTicket.{ServiceTicket}
use Rattle.cx_laws_keys.specs.cx_steps.specs.declared.seals.SealEntry.{SealEntry}
use Rattle.cx_laws_keys.specs.cx_steps.specs.declared.seals.SealEntry.TheVariants as seal
use Rattle.cx_laws_keys.specs.cx_wire.specs.Logins.{authorizer_layout}
use Rattle.cx_laws_keys.specs.cx_wire.specs.declared.authorizers.Authorizer.{Authorizer}
use Rattle.cx_laws_tickets.specs.authorize.Admission.{IsShown}

-- more that is logged behind it changes nothing
pub shown-more : (view : View) (reading challenge : ℕ) (ticket : ServiceTicket) (seals more : List SealEntry) → IsShown view reading challenge ticket seals
    → IsShown view reading challenge ticket (seals ++ more)
shown-more view reading challenge ticket seals more h = record {
  id = h.id;
  key = h.key;
  known = h.known;
  content = h.content;
  says = h.says;
  live = h.live;
  authorize = h.authorize;
  answer = h.answer;
  shows = h.shows;
  asked = h.asked;
  answers = h.answers;
  rest = h.rest ++ more;
  opened = ap (λ (es : List SealEntry). es ++ more) h.opened;
}

module _ (awaited : Awaited) (view : View) (reading : ℕ) where
  -- where it is judged right, so its ticket is shown
  abbrev Shows : {X : Type 0} → Judged AuthRefusal X → (X → ServiceTicket) → Type 0
  Shows j part = (ticket : ServiceTicket) → judged_by part j.value ≡ Ok ticket → IsShown view reading awaited.challenge ticket j.seals

  module _ (a : Authorizer) where
    -- behind the ticket, which opened under this key
    module _ (key : List ℕ) (known : generation_key view.generations a.ticket.generation ≡ Some key) (content : List ℕ) (ticket : ServiceTicket)
        (says : spelled_by service_ticket_layout.form content ≡ Some ticket) (live : reading < ticket.expires) where
      abbrev first : SealEntry
      first = seal.Opened (record { key = key; kind = kind.Service; content = content })

      abbrev second : List ℕ → SealEntry
      second answer = seal.Opened (record { key = ticket.session; kind = kind.Session; content = answer })

      -- what the authorizer opened to
      answered-shows : (answer : List ℕ) (authorize : Authorize) → spelled_by authorize_layout.form answer ≡ Some authorize → (t : ServiceTicket)
          → judged_by (λ shown. shown.ticket) (with_blob a.ticket.blob (answering (Some awaited.challenge) ticket (Some authorize))) ≡ Ok t
          → IsShown view reading awaited.challenge t (first ∷ second answer ∷ [])
      answered-shows answer authorize shows t is = by_test (authorize.have_challenge && (authorize.server_challenge_plus_one == raised awaited.challenge)) refl is
        where
          by_test : (right : Bool) → (authorize.have_challenge && (authorize.server_challenge_plus_one == raised awaited.challenge)) ≡ right
              → judged_by (λ shown. shown.ticket) (with_blob a.ticket.blob (if right then Ok (record { ticket = ticket; authorize = authorize })
              else Err (fault.ChallengeWrong (raised awaited.challenge) authorize.server_challenge_plus_one))) ≡ Ok t
              → IsShown view reading awaited.challenge t (first ∷ second answer ∷ [])
          by_test true right found =
              let parts = and_parts authorize.have_challenge (authorize.server_challenge_plus_one == raised awaited.challenge) right in
              let same : ticket ≡ t = cc in
              subst (λ (x : ServiceTicket). IsShown view reading awaited.challenge x (first ∷ second answer ∷ [])) same (record {
                id = a.ticket.generation;
                key = key;
                known = known;
                content = content;
                says = says;
                live = live;
                authorize = authorize;
                answer = answer;
                shows = shows;
                asked = parts.0;
                answers = eqb-true authorize.server_challenge_plus_one (raised awaited.challenge) parts.1;
                rest = [];
                opened = refl;
              })
          by_test false wrong found = absurd cc

      authorize-shows : (o : Option (List ℕ)) → Shows (judged_with a.ticket.blob (behind (first ∷ []) (
          let u = unlocked_as kind.Session ticket.session (unsealed_as authorize_layout.form o) in
          record { seals = u.seals; value = answering (Some awaited.challenge) ticket u.value }))) (λ shown. shown.ticket)
      authorize-shows None t is = absurd cc
      authorize-shows (Some answer) t is = by_value (spelled_by authorize_layout.form answer) refl is
        where
          by_value : (v : Option Authorize) → spelled_by authorize_layout.form answer ≡ v
              → judged_by (λ shown. shown.ticket) (with_blob a.ticket.blob (answering (Some awaited.challenge) ticket v)) ≡ Ok t
              → IsShown view reading awaited.challenge t (first ∷ second answer ∷ [])
          by_value None none found = absurd cc
          by_value (Some authorize) shows found = answered-shows answer authorize shows t found

    abbrev opened_first : List ℕ → List ℕ → List SealEntry
    opened_first key content = seal.Opened (record { key = key; kind = kind.Service; content = content }) ∷ []

    -- behind a ticket that opened
    ticket-shows : (key content : List ℕ) → generation_key view.generations a.ticket.generation ≡ Some key → (ticket : ServiceTicket)
        → spelled_by service_ticket_layout.form content ≡ Some ticket
        → Shows (judged_with a.ticket.blob (behind (opened_first key content) (judged_by_fault (second_terms awaited view reading) a ticket (fault_of reading a ticket)))) (λ shown. shown.ticket)
    ticket-shows key content known ticket says = by_tests (not (a.gid == ticket.gid)) (nat_le ticket.expires reading) refl
      where
        by_tests : (differs late : Bool) → nat_le ticket.expires reading ≡ late
            → Shows (judged_with a.ticket.blob (behind (opened_first key content) (judged_by_fault (second_terms awaited view reading) a ticket
            (if differs then Some (fault.GidDiffers a.gid ticket.gid) else (if late then Some (fault.Expired ticket.expires reading) else None))))) (λ shown. shown.ticket)
        by_tests true late is t found = absurd cc
        by_tests false true is t found = absurd cc
        by_tests false false is t found =
            authorize-shows key known content ticket says (leb-false ticket.expires reading is) (opened ticket.session a.authorize) t found

    blob-shows : (key : List ℕ) → generation_key view.generations a.ticket.generation ≡ Some key → (o : Option (List ℕ))
        → Shows (judged_with a.ticket.blob (let u = unlocked_as kind.Service key (unsealed_as service_ticket_layout.form o) in
        behind u.seals (judged_by_ticket (second_terms awaited view reading) a u.value))) (λ shown. shown.ticket)
    blob-shows key known None t is = absurd cc
    blob-shows key known (Some content) t is = by_value (spelled_by service_ticket_layout.form content) refl t is
      where
        by_value : (v : Option ServiceTicket) → spelled_by service_ticket_layout.form content ≡ v
            → Shows (judged_with a.ticket.blob (behind (opened_first key content) (judged_by_ticket (second_terms awaited view reading) a v))) (λ shown. shown.ticket)
        by_value None says x found = absurd cc
        by_value (Some ticket) says x found = ticket-shows key content known ticket says x found

    key-shows : (key : Option (List ℕ)) → generation_key view.generations a.ticket.generation ≡ key
        → Shows (judged_with a.ticket.blob (judged_by_key (second_terms awaited view reading) a key)) (λ shown. shown.ticket)
    key-shows None known t is = absurd cc
    key-shows (Some key) known t is = blob-shows key known (opened key a.ticket.blob) t is

    service-shows : Shows (judged_by_service (second_terms awaited view reading) a) (λ shown. shown.ticket)
    service-shows = by_test (same_kind awaited.service a.service)
      where
        by_test : (same : Bool) → Shows (if same then judged_with a.ticket.blob (judged_by_key (second_terms awaited view reading) a (generation_key view.generations a.ticket.generation))
            else refused_as (refusal.WrongService awaited.service a.service)) (λ shown. shown.ticket)
        by_test true t is = key-shows (generation_key view.generations a.ticket.generation) refl t is
        by_test false t is = absurd cc

  payload-shows : (found : Option Authorizer) (place : ℕ) → Shows (judged_by_payload (second_terms awaited view reading) found place) (λ shown. shown.ticket)
  payload-shows None place t is = absurd cc
  payload-shows (Some a) place t is = service-shows a t is

  pub second-shows : (payload : List ℕ) (ticket : ServiceTicket) → judged_by (λ shown. shown.ticket) (judged_second awaited view reading payload).value ≡ Ok ticket
      → IsShown view reading awaited.challenge ticket (judged_second awaited view reading payload).seals
  second-shows payload = payload-shows (spelled_by authorizer_layout.form payload) (stop_of (authorizer_layout.form.at (start payload)))
