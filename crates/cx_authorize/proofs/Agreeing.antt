-- Both sides agree.
use Rattle.std.proofs.Common.{◌≡◌, ℕ, ◌<◌, Bool, true, false, List, Option, Some, None, Result, Ok, Err, refl, sym, ap, subst, ◌∙◌, inl, inr}
use Rattle.std.specs.Prelude.{MatchBool}
use Rattle.std.proofs.lemmas.Bool.{eq-eqb, lt-leb}
use Rattle.cx_base.specs.Names.{same_kind}
use Rattle.cx_sealed.specs.Records.{service_ticket_layout, authorize_layout, authorize_challenge_layout, authorize_reply_layout}
use Rattle.cx_sealed.specs.Sealing.{OpensTo}
use Rattle.cx_sealed.specs.declared.service_ticket.ServiceTicket.{ServiceTicket}
use Rattle.cx_sealed.specs.declared.authorize.Authorize.{Authorize}
use Rattle.cx_sealed.specs.declared.authorize_challenge.AuthorizeChallenge.{AuthorizeChallenge}
use Rattle.cx_sealed.specs.declared.authorize_reply.AuthorizeReply.{AuthorizeReply}
use Rattle.cx_wire.specs.Logins as payload
use Rattle.cx_wire.specs.declared.authorizers.Authorizer.{Authorizer}
use Rattle.cx_wire.specs.declared.authorizers.AuthorizeChallenge as challenge_payload
use Rattle.cx_wire.specs.declared.authorizers.AuthorizeReply as reply_payload
use Rattle.cx_login.specs.Opening.{IsShut, IsTried, generation_key}
use Rattle.cx_login.proofs.Tried.{tried_is, spells_one}
use Rattle.cx_authorize.specs.Verdict.{raised, answering, fault_of, with_blob, IsJudgedByFault, IsJudgedByTicket, IsJudgedByKey, IsJudgedByService}
use Rattle.cx_authorize.specs.Answers.{shown_as, authorizer_of, IsAuthorizer, IsReply}
use Rattle.cx_authorize.specs.Client.{Answered, Replies}
use Rattle.cx_authorize.specs.Agreement.{IsAccepted, AnswersChallenge, TakesReply}
use Rattle.cx_authorize.specs.declared.refusals.AuthFault.{AuthFault}
use Rattle.cx_authorize.specs.declared.refusals.AuthRefusal.{AuthRefusal}
use Rattle.cx_authorize.specs.declared.refusals.PresentRefusal.TheVariants as present
use Rattle.cx_authorize.specs.declared.judging.Terms.{Terms}
use Rattle.cx_authorize.specs.declared.judging.Shown.{Shown}
use Rattle.cx_authorize.specs.declared.client.Agreed.{Agreed}

abbrev good : ServiceTicket → Authorize → Result Shown AuthFault
good ticket authorize = Ok (record { ticket = ticket; authorize = authorize })

abbrev passing : ServiceTicket → Authorize → Result Shown AuthRefusal
passing ticket authorize = Ok (record { ticket = ticket; authorize = authorize })

-- what is shown to a challenge answers it
answers_it : (challenge : Option ℕ) (ticket : ServiceTicket) (nonce : ℕ) → answering challenge ticket (Some (shown_as nonce challenge)) ≡ good ticket (shown_as nonce challenge)
answers_it None ticket nonce = refl
answers_it (Some challenge) ticket nonce = rw (eq-eqb (raised challenge) (raised challenge) refl) refl

-- no fault stands against a live ticket under its own global id
no_fault : (reading : ℕ) (a : Authorizer) (ticket : ServiceTicket) → a.gid ≡ ticket.gid → reading < ticket.expires → fault_of reading a ticket ≡ None
no_fault reading a ticket gid live = rw (eq-eqb a.gid ticket.gid gid, lt-leb ticket.expires reading live) refl

by_no_fault : (terms : Terms) (a : Authorizer) (ticket : ServiceTicket) (nonce : ℕ) (fault : Option AuthFault) (judged : Result Shown AuthFault)
    → fault ≡ None → OpensTo authorize_layout.form ticket.session a.authorize (shown_as nonce terms.challenge) → IsJudgedByFault terms a ticket fault judged
    → judged ≡ good ticket (shown_as nonce terms.challenge)
by_no_fault terms a ticket nonce (Some fault) judged none to by = absurd (some_none fault none)
  where
    some_none : (fault : AuthFault) → Some fault ≡ None → ⊥
    some_none fault e = cc
by_no_fault terms a ticket nonce None judged none to (opened, tried, is) =
    let one : opened ≡ Some (shown_as nonce terms.challenge) = tried.only (shown_as nonce terms.challenge) to in
    is ∙ ap (λ (o : Option Authorize). answering terms.challenge ticket o) one ∙ answers_it terms.challenge ticket nonce

by_key : (terms : Terms) (a : Authorizer) (ticket : ServiceTicket) (key : List ℕ) (nonce : ℕ) (found : Option (List ℕ)) (judged : Result Shown AuthFault)
    → found ≡ Some key → OpensTo service_ticket_layout.form key a.ticket.blob ticket → a.gid ≡ ticket.gid → terms.reading < ticket.expires
    → OpensTo authorize_layout.form ticket.session a.authorize (shown_as nonce terms.challenge) → IsJudgedByKey terms a found judged
    → judged ≡ good ticket (shown_as nonce terms.challenge)
by_key terms a ticket key nonce found judged is opens gid live to by =
    let known : IsJudgedByKey terms a (Some key) judged = subst (λ (k : Option (List ℕ)). IsJudgedByKey terms a k judged) is by in
    let one : known.0 ≡ Some ticket = known.1.only ticket opens in
    let judged_by : IsJudgedByTicket terms a (Some ticket) judged = subst (λ (o : Option ServiceTicket). IsJudgedByTicket terms a o judged) one known.2 in
    by_no_fault terms a ticket nonce (fault_of terms.reading a ticket) judged (no_fault terms.reading a ticket gid live) to judged_by

by_service : (b : Bool) (J : Type 0) (verdict why expected : Result Shown AuthRefusal) → b ≡ true → (J → verdict ≡ expected) → MatchBool b J (verdict ≡ why) → verdict ≡ expected
by_service true J verdict why expected is then_is by = then_is by
by_service false J verdict why expected is then_is by = absurd cc

pub accepted : IsAccepted
accepted held ticket key terms nonce bytes verdict issued welcome (sealed, is_sealed, spells) (inr (place, refused, is)) = absurd (refused.0 (authorizer_of held ticket.gid sealed) spells)
accepted held ticket key terms nonce bytes verdict issued welcome (sealed, is_sealed, spells) (inl (a, read, judged)) =
    let shown : Authorizer = authorizer_of held ticket.gid sealed in
    let one : a ≡ shown = spells_one payload.authorizer_layout bytes a shown read spells in
    let by : IsJudgedByService terms shown verdict = subst (λ (x : Authorizer). IsJudgedByService terms x verdict) one judged in
    let to : OpensTo authorize_layout.form ticket.session sealed (shown_as nonce terms.challenge) =
    subst (λ (session : List ℕ). OpensTo authorize_layout.form session sealed (shown_as nonce terms.challenge)) issued.told is_sealed.opens in
    by_service (same_kind terms.service held.service)
    ((j : Result Shown AuthFault) × IsJudgedByKey terms shown (generation_key terms.view.generations held.generation) j × (verdict ≡ with_blob held.blob j))
    verdict _ (passing ticket (shown_as nonce terms.challenge)) welcome.served
    (λ (j, key_by, is). is ∙ ap (λ (x : Result Shown AuthFault). with_blob held.blob x)
    (by_key terms shown ticket key nonce (generation_key terms.view.generations held.generation) j welcome.known issued.opens refl welcome.live to key_by))
    by

-- ---- the client

pub answered : AnswersChallenge
answered presented challenge bytes (Ok made) (sealed, is_sealed, spells) is =
    let sent : challenge_payload.AuthorizeChallenge = record { sealed = sealed } in
    let one : is.found.0 ≡ sent = spells_one payload.authorize_challenge_layout bytes is.found.0 sent is.found.1 spells in
    let tried = subst (λ (s : challenge_payload.AuthorizeChallenge). IsTried authorize_challenge_layout.form presented.held.session s.sealed (Some is.found.2)) one is.found.3 in
    let same : is.found.2 ≡ record { challenge = challenge } = tried_is authorize_challenge_layout.form presented.held.session sealed is.found.2 (record { challenge = challenge }) tried is_sealed.opens in
    (tt, (is.found.4, subst (λ (c : AuthorizeChallenge). IsAuthorizer presented.held presented.gid (shown_as presented.nonce (Some c.challenge)) made.1) same is.found.5))
answered presented challenge bytes (Err (present.Malformed place)) (sealed, is_sealed, spells) is = absurd (is.refused.0 (record { sealed = sealed }) spells)
answered presented challenge bytes (Err present.Unopened) (sealed, is_sealed, spells) is =
    let sent : challenge_payload.AuthorizeChallenge = record { sealed = sealed } in
    let one : is.refused.0 ≡ sent = spells_one payload.authorize_challenge_layout bytes is.refused.0 sent is.refused.1 spells in
    let shut = subst (λ (s : challenge_payload.AuthorizeChallenge). IsShut authorize_challenge_layout.form presented.held.session s.sealed) one is.refused.2 in
    absurd (shut (record { challenge = challenge }) is_sealed.opens)
answered presented challenge bytes (Err (present.NonceWrong expected got)) (sealed, is_sealed, spells) is = absurd is.refused
answered presented challenge bytes (Err present.OutOfMemory) (sealed, is_sealed, spells) is = (refl, tt)

reply_is : (answer : Answered) (secret bytes : List ℕ) (reply : AuthorizeReply) → IsReply answer.session answer.nonce secret bytes → Replies answer bytes reply
    → reply ≡ record { nonce_plus_one = raised answer.nonce; secret = secret }
reply_is answer secret bytes reply (sealed, is_sealed, spells) (read, spelled, tried) =
    let sent : reply_payload.AuthorizeReply = record { sealed = sealed } in
    let one : read ≡ sent = spells_one payload.authorize_reply_layout bytes read sent spelled spells in
    let told = subst (λ (s : reply_payload.AuthorizeReply). IsTried authorize_reply_layout.form answer.session s.sealed (Some reply)) one tried in
    tried_is authorize_reply_layout.form answer.session sealed reply (record { nonce_plus_one = raised answer.nonce; secret = secret }) told is_sealed.opens

abbrev agreed_as : List ℕ → List ℕ → Agreed
agreed_as secret session = record { secret = secret; session = session }

pub agreed : TakesReply
agreed answer secret bytes (Ok agreement) replies is =
    let same = reply_is answer secret bytes is.found.0 replies is.found.1 in
    (tt, is.found.3 ∙ ap (λ (r : AuthorizeReply). agreed_as r.secret answer.session) same)
agreed answer secret bytes (Err (present.Malformed place)) (sealed, is_sealed, spells) is = absurd (is.refused.0 (record { sealed = sealed }) spells)
agreed answer secret bytes (Err present.Unopened) (sealed, is_sealed, spells) is =
    let sent : reply_payload.AuthorizeReply = record { sealed = sealed } in
    let one : is.refused.0 ≡ sent = spells_one payload.authorize_reply_layout bytes is.refused.0 sent is.refused.1 spells in
    let shut = subst (λ (s : reply_payload.AuthorizeReply). IsShut authorize_reply_layout.form answer.session s.sealed) one is.refused.2 in
    absurd (shut (record { nonce_plus_one = raised answer.nonce; secret = secret }) is_sealed.opens)
agreed answer secret bytes (Err (present.NonceWrong expected got)) replies is =
    let same = reply_is answer secret bytes is.refused.0 replies is.refused.1 in
    let nonce = ap (λ (r : AuthorizeReply). r.nonce_plus_one) same in
    absurd (is.refused.4 (is.refused.3 ∙ nonce ∙ sym is.refused.2))
agreed answer secret bytes (Err present.OutOfMemory) replies is = (refl, tt)
