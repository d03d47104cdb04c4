-- What passes was opened under a generation of the view, and is live.
use Rattle.std.proofs.Common.{◌≡◌, ℕ, ◌<◌, Bool, true, false, cond, List, Option, Some, None, Result, Ok, Err, refl, sym, ap, subst}
use Rattle.std.specs.Prelude.{◌==◌, ◌&&◌, not, nat_le}
use Rattle.std.proofs.lemmas.Bool.{leb-false}
use Rattle.cx_base.specs.Names.{same_kind}
use Rattle.cx_wire.specs.cx_control.specs.Calls.{stop_of}
use Rattle.cx_enc.specs.Whole.{start}
use Rattle.cx_journal.specs.declared.premises.KeyKind.TheVariants as kind
use Rattle.cx_sealed.specs.Records.{service_ticket_layout, authorize_layout}
use Rattle.cx_sealed.specs.Sealing.{OpensTo}
use Rattle.cx_sealed.specs.Unsealing.{spelled_by}
use Rattle.cx_sealed.specs.declared.service_ticket.ServiceTicket.{ServiceTicket}
use Rattle.cx_sealed.specs.declared.authorize.Authorize.{Authorize}
use Rattle.cx_wire.specs.Logins.{authorizer_layout}
use Rattle.cx_wire.specs.declared.authorizers.Authorizer.{Authorizer}
use Rattle.cx_login.specs.Opening.{generation_key}
use Rattle.cx_login.specs.Unlocking.{unlocked}
use Rattle.cx_authorize.specs.declared.refusals.AuthFault.{AuthFault}
use Rattle.cx_authorize.specs.declared.refusals.AuthFault.TheVariants.{GidDiffers, Expired, ChallengeWrong}
use Rattle.cx_authorize.specs.declared.refusals.AuthRefusal.{AuthRefusal}
use Rattle.cx_authorize.specs.declared.refusals.AuthRefusal.TheVariants.{WrongService}
use Rattle.cx_authorize.specs.declared.judging.Terms.{Terms}
use Rattle.cx_authorize.specs.declared.judging.Shown.{Shown}
use Rattle.cx_authorize.specs.Verdict.{raised, answering, fault_of, with_blob}
use Rattle.cx_authorize.specs.Daemon.{IsLive}
use Rattle.cx_authorize.specs.Judging.{refused_as, judged_by_fault, judged_by_ticket, judged_by_key, judged_with, judged_by_payload, judged}
use Rattle.cx_authorize.proofs.Opened.{opens_of}

abbrev good : Shown → Result Shown AuthFault
good shown = Ok shown

abbrev bad : AuthFault → Result Shown AuthFault
bad fault = Err fault

abbrev passing : Shown → Result Shown AuthRefusal
passing shown = Ok shown

not_both : (judged : Result Shown AuthFault) (shown : Shown) (fault : AuthFault) → judged ≡ good shown → judged ≡ bad fault → ⊥
not_both judged shown fault a b = cc

good_is : (a b : Shown) → good a ≡ good b → a ≡ b
good_is a b e = cc

judged_good : (blob : List ℕ) (judged : Result Shown AuthFault) (shown : Shown) → passing shown ≡ with_blob blob judged → judged ≡ good shown
judged_good blob (Ok other) shown e = cc
judged_good blob (Err fault) shown e = absurd cc

tested : (b : Bool) (ticket : ServiceTicket) (authorize : Authorize) (fault : AuthFault) (shown : Shown)
    → cond b (good (record { ticket = ticket; authorize = authorize })) (bad fault) ≡ good shown → shown.ticket ≡ ticket
tested true ticket authorize fault shown e = ap (λ (s : Shown). s.ticket) (sym (good_is (record { ticket = ticket; authorize = authorize }) shown e))
tested false ticket authorize fault shown e = absurd (not_both (bad fault) shown fault e refl)

-- what was shown is the ticket that opened
same_ticket : (challenge : Option ℕ) (ticket : ServiceTicket) (opened : Option Authorize) (shown : Shown) → answering challenge ticket opened ≡ good shown → shown.ticket ≡ ticket
same_ticket challenge ticket None shown e = absurd cc
same_ticket None ticket (Some authorize) shown e = ap (λ (s : Shown). s.ticket) (sym (good_is (record { ticket = ticket; authorize = authorize }) shown e))
same_ticket (Some challenge) ticket (Some authorize) shown e =
    tested (authorize.have_challenge && (authorize.server_challenge_plus_one == raised challenge)) ticket authorize
    (ChallengeWrong (raised challenge) authorize.server_challenge_plus_one) shown e

none_faulty : (a b : Bool) (first second : AuthFault) → cond (not a) (Some first) (cond b (Some second) None) ≡ None → b ≡ false
none_faulty true true first second e = absurd cc
none_faulty true false first second e = refl
none_faulty false b first second e = absurd cc

-- where nothing stands against a ticket, it is live
live_by : (reading : ℕ) (a : Authorizer) (ticket : ServiceTicket) → fault_of reading a ticket ≡ None → reading < ticket.expires
live_by reading a ticket e =
    leb-false ticket.expires reading (none_faulty (a.gid == ticket.gid) (nat_le ticket.expires reading) (GidDiffers a.gid ticket.gid) (Expired ticket.expires reading) e)

by_fault : (terms : Terms) (a : Authorizer) (ticket : ServiceTicket) (fault : Option AuthFault) (shown : Shown)
    → fault_of terms.reading a ticket ≡ fault → (judged_by_fault terms a ticket fault).value ≡ good shown → (shown.ticket ≡ ticket) × (terms.reading < ticket.expires)
by_fault terms a ticket (Some fault) shown e is = absurd (not_both (bad fault) shown fault is refl)
by_fault terms a ticket None shown e is =
    (same_ticket terms.challenge ticket (unlocked authorize_layout.form kind.Session ticket.session a.authorize).value shown is, live_by terms.reading a ticket e)

by_ticket : (terms : Terms) (a : Authorizer) (key : List ℕ) (opened : Option ServiceTicket) (shown : Shown)
    → generation_key terms.view.generations a.ticket.generation ≡ Some key → (unlocked service_ticket_layout.form kind.Service key a.ticket.blob).value ≡ opened
    → (judged_by_ticket terms a opened).value ≡ good shown → IsLive terms.view terms.reading shown.ticket
by_ticket terms a key None shown known opens is = absurd cc
by_ticket terms a key (Some ticket) shown known opens is =
    let both = by_fault terms a ticket (fault_of terms.reading a ticket) shown refl is in
    let to : OpensTo service_ticket_layout.form key a.ticket.blob ticket = opens_of service_ticket_layout.form service_ticket_layout.lawful kind.Service key a.ticket.blob ticket opens in
    record {
      id = a.ticket.generation;
      key = key;
      blob = a.ticket.blob;
      known = known;
      opened = subst (λ (t : ServiceTicket). OpensTo service_ticket_layout.form key a.ticket.blob t) (sym both.0) to;
      live = subst (λ (t : ServiceTicket). terms.reading < t.expires) (sym both.0) both.1;
    }

by_key : (terms : Terms) (a : Authorizer) (found : Option (List ℕ)) (shown : Shown)
    → generation_key terms.view.generations a.ticket.generation ≡ found → (judged_by_key terms a found).value ≡ good shown → IsLive terms.view terms.reading shown.ticket
by_key terms a None shown known is = absurd cc
by_key terms a (Some key) shown known is = by_ticket terms a key (unlocked service_ticket_layout.form kind.Service key a.ticket.blob).value shown known refl is

by_service : (terms : Terms) (a : Authorizer) (b : Bool) (why : AuthRefusal) (shown : Shown)
    → (cond b (judged_with a.ticket.blob (judged_by_key terms a (generation_key terms.view.generations a.ticket.generation))) (refused_as why)).value ≡ passing shown
    → IsLive terms.view terms.reading shown.ticket
by_service terms a true why shown is =
    let found : Option (List ℕ) = generation_key terms.view.generations a.ticket.generation in
    by_key terms a found shown refl (judged_good a.ticket.blob (judged_by_key terms a found).value shown (sym is))
by_service terms a false why shown is = absurd cc

by_payload : (terms : Terms) (spelled : Option Authorizer) (place : ℕ) (shown : Shown) → (judged_by_payload terms spelled place).value ≡ passing shown → IsLive terms.view terms.reading shown.ticket
by_payload terms None place shown is = absurd cc
by_payload terms (Some a) place shown is = by_service terms a (same_kind terms.service a.service) (WrongService terms.service a.service) shown is

-- the facts of a verdict that lets an authorizer pass
pub live_of : (terms : Terms) (payload : List ℕ) (shown : Shown) → (judged terms payload).value ≡ Ok shown → IsLive terms.view terms.reading shown.ticket
live_of terms payload shown is = by_payload terms (spelled_by authorizer_layout.form payload) (stop_of (authorizer_layout.form.at (start payload))) shown is
