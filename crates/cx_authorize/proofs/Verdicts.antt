-- There is one verdict on an authorizer.
use Rattle.std.proofs.Common.{◌≡◌, ℕ, Bool, true, false, List, Option, Some, None, Result, Err, sym, ap, subst, ◌∙◌, inl, inr}
use Rattle.std.specs.Prelude.{MatchBool}
use Rattle.cx_base.specs.Names.{same_kind}
use Rattle.cx_sealed.specs.Records.{service_ticket_layout, authorize_layout}
use Rattle.cx_sealed.specs.declared.service_ticket.ServiceTicket.{ServiceTicket}
use Rattle.cx_sealed.specs.declared.authorize.Authorize.{Authorize}
use Rattle.cx_wire.specs.Logins.{authorizer_layout}
use Rattle.cx_wire.specs.declared.authorizers.Authorizer.{Authorizer}
use Rattle.cx_login.specs.Opening.{generation_key}
use Rattle.cx_login.proofs.Tried.{tried_one, spells_one}
use Rattle.cx_authorize.specs.declared.refusals.AuthFault.{AuthFault}
use Rattle.cx_authorize.specs.declared.refusals.AuthRefusal.{AuthRefusal}
use Rattle.cx_authorize.specs.declared.refusals.AuthRefusal.TheVariants.{Malformed, WrongService}
use Rattle.cx_authorize.specs.declared.judging.Terms.{Terms}
use Rattle.cx_authorize.specs.declared.judging.Shown.{Shown}
use Rattle.cx_authorize.specs.Verdict.{answering, fault_of, with_blob, IsJudgedByFault, IsJudgedByTicket, IsJudgedByKey, IsJudgedByService, IsVerdict}

-- ---- the chain

by_fault : (terms : Terms) (a : Authorizer) (ticket : ServiceTicket) (fault : Option AuthFault) (v w : Result Shown AuthFault)
    → IsJudgedByFault terms a ticket fault v → IsJudgedByFault terms a ticket fault w → v ≡ w
by_fault terms a ticket (Some fault) v w first second = first ∙ sym second
by_fault terms a ticket None v w (authorize, tried, is) (other, told, same) =
    let one : authorize ≡ other = tried_one authorize_layout.form ticket.session a.authorize authorize other tried told in
    is ∙ ap (λ (o : Option Authorize). answering terms.challenge ticket o) one ∙ sym same

by_ticket : (terms : Terms) (a : Authorizer) (ticket : Option ServiceTicket) (v w : Result Shown AuthFault)
    → IsJudgedByTicket terms a ticket v → IsJudgedByTicket terms a ticket w → v ≡ w
by_ticket terms a None v w first second = first ∙ sym second
by_ticket terms a (Some ticket) v w first second = by_fault terms a ticket (fault_of terms.reading a ticket) v w first second

by_key : (terms : Terms) (a : Authorizer) (key : Option (List ℕ)) (v w : Result Shown AuthFault)
    → IsJudgedByKey terms a key v → IsJudgedByKey terms a key w → v ≡ w
by_key terms a None v w first second = first ∙ sym second
by_key terms a (Some key) v w (ticket, tried, judged) (other, told, second) =
    let one : other ≡ ticket = tried_one service_ticket_layout.form key a.ticket.blob other ticket told tried in
    by_ticket terms a ticket v w judged (subst (λ (o : Option ServiceTicket). IsJudgedByTicket terms a o w) one second)

abbrev Judged : Terms → Authorizer → Result Shown AuthRefusal → Type 0
Judged terms a verdict =
    (judged : Result Shown AuthFault) × IsJudgedByKey terms a (generation_key terms.view.generations a.ticket.generation) judged × (verdict ≡ with_blob a.ticket.blob judged)

judged_one : (terms : Terms) (a : Authorizer) (v w : Result Shown AuthRefusal) → Judged terms a v → Judged terms a w → v ≡ w
judged_one terms a v w (judged, by, is) (other, told, same) =
    let one : judged ≡ other = by_key terms a (generation_key terms.view.generations a.ticket.generation) judged other by told in
    is ∙ ap (λ (j : Result Shown AuthFault). with_blob a.ticket.blob j) one ∙ sym same

by_service : (terms : Terms) (a : Authorizer) (b : Bool) (v w why : Result Shown AuthRefusal)
    → MatchBool b (Judged terms a v) (v ≡ why) → MatchBool b (Judged terms a w) (w ≡ why) → v ≡ w
by_service terms a true v w why first second = judged_one terms a v w first second
by_service terms a false v w why first second = first ∙ sym second

pub service_one : (terms : Terms) (a : Authorizer) (v w : Result Shown AuthRefusal) → IsJudgedByService terms a v → IsJudgedByService terms a w → v ≡ w
service_one terms a v w first second = by_service terms a (same_kind terms.service a.service) v w (Err (WrongService terms.service a.service)) first second

abbrev malformed : ℕ → Result Shown AuthRefusal
malformed place = Err (Malformed place)

-- there is one verdict
pub verdict_one : (terms : Terms) (payload : List ℕ) (v w : Result Shown AuthRefusal) → IsVerdict terms payload v → IsVerdict terms payload w → v ≡ w
verdict_one terms payload v w (inl (a, spells, judged)) (inl (b, spelled, second)) =
    let one : b ≡ a = spells_one authorizer_layout payload b a spelled spells in
    service_one terms a v w judged (subst (λ (x : Authorizer). IsJudgedByService terms x w) one second)
verdict_one terms payload v w (inl (a, spells, judged)) (inr (place, refused, is)) = absurd (refused.0 a spells)
verdict_one terms payload v w (inr (place, refused, is)) (inl (a, spells, judged)) = absurd (refused.0 a spells)
verdict_one terms payload v w (inr (place, refused, is)) (inr (other, told, same)) =
    let one : place ≡ other = refused.1 ∙ sym told.1 in
    is ∙ ap malformed one ∙ sym same
