-- A turn that was made by the replies of a book is the one of the rules with that book.
use Rattle.std.proofs.Common.{◌≡◌, ◌∙◌, ℕ, Bool, true, false, Option, Some, None, Result, Ok, Err, refl, sym, ap, subst}
use Rattle.cx_daemon_session.specs.cx_authorize.specs.Daemon.{Authority}
use Rattle.cx_desk.specs.Handlers.{Handlers}
use Rattle.cx_node.specs.cx_rules.specs.Abridged.{abridged_link}
use Rattle.cx_node.specs.cx_rules.specs.Holdings.{MonClient}
use Rattle.cx_node.specs.cx_rules.specs.Rows.{Turned, Waits, Refuses, Handles}
use Rattle.cx_daemon_session.specs.cx_rules_session.specs.Asks.{Finished, Asking}
use Rattle.cx_daemon_session.specs.cx_rules_session.specs.DaemonRule.{book_after, book_reply, owner_entity, owner_gid}
use Rattle.cx_daemon_session.specs.cx_rules_session.specs.IncomingLinks.{IncomingStage}
use Rattle.cx_daemon_session.specs.cx_rules_session.specs.Hosting.{Deciding, Hosted, no_session_moves}
use Rattle.cx_daemon_session.specs.cx_rules_session.proofs.AskingAlike.{with_book-alike}
use Rattle.cx_session.specs.Answers.{admission_reply, behind, message_reply, resumption_reply}
use Rattle.cx_session.specs.Book.{Book, admit_reply, admitted, resume_reply, resumed, take_reply, taken}
use Rattle.cx_session.specs.declared.call.BookCall.{BookCall}
use Rattle.cx_session.specs.declared.call.BookCall.TheVariants.{Admit, Resume, Check, Take, End}
use Rattle.cx_session.specs.declared.call.BookFault.{BookFault}
use Rattle.cx_session.specs.declared.call.BookReply.{BookReply}
use Rattle.cx_session.specs.declared.call.BookReply.TheVariants.{Refused}
use Rattle.cx_node.specs.steps.Steps.{IsTurn, Stays, turn_due, turn_made}
use Rattle.cx_node.specs.steps.Turns.{HasNumber}
use Rattle.cx_node.specs.declared.came.Came.{Came}
use Rattle.cx_node.specs.declared.came.Came.TheVariants as came
use Rattle.cx_node.specs.declared.moments.Moment.{Moment}
use Rattle.cx_daemon_session.specs.cx_verifying.specs.Rows.{arrived, unchanged}
use Rattle.cx_daemon_session.specs.cx_verifying.specs.Stages.{IncomingLink}
use Rattle.cx_daemon_session.specs.cx_verifying.specs.Turns.{IsIncomingTurn, incoming_due, unasked}
use Rattle.cx_daemon_session.specs.coming.Hosted.{AreOne, asks_due, done_as, hosted_due}
use Rattle.cx_daemon_session.specs.idents.Pending.{IsApplied}
use Rattle.cx_daemon_session.specs.turn.Hosting.{IsHosted, IsMade, as_hosted, behind_call, decided_with, hosted_by}
use Rattle.cx_daemon_session.specs.declared.hosting.HostedTurn.{HostedTurn}
use Rattle.cx_daemon_session.proofs.turn.Asked.{Asked, GoesOn, turn-asked, waits}
use Rattle.cx_daemon_session.proofs.turn.Booking.{with_book_map}

-- ---- by the replies

-- a turn that is done asks for nothing
abbrev pub done_turn : Came IncomingLink (Unit {0}) → HostedTurn
done_turn came = record { came = came; moved = None; call = None }

pub done_made : (mon_client : MonClient) (number : ℕ) (book : Book Authority) (came : Came IncomingLink (Unit {0})) → HasNumber (λ (l : IncomingLink). l.number) number came
    → IsMade mon_client number book (done_as mon_client came None) (done_turn came)
done_made mon_client number book came number_is = record { made = refl; book_behind = refl; number_is = number_is }

-- one that is done by the reply, with the call that changes the book
pub replied_made : (mon_client : MonClient) (number : ℕ) (book : Book Authority) (call : BookCall Authority) (next : BookReply → Deciding Hosted) (reply : BookReply) (h : HostedTurn)
    → reply ≡ book_reply book call → done_as mon_client h.came h.moved ≡ next reply → behind_call book h.call ≡ book_after book call
    → HasNumber (λ (l : IncomingLink). l.number) number h.came → IsMade mon_client number book (Asking call next) h
replied_made mon_client number book call next reply h e made book_behind number_is =
    let with_rule : Deciding Hosted → Hosted × Book Authority = λ rule. decided_with (book_after book call) rule in
    let hosted : Hosted × Book Authority → Hosted = λ done. done.0 in
    let left : Hosted × Book Authority → Book Authority = λ done. done.1 in
    let whole = ap with_rule (made ∙ ap next e) in
    record { made = ap hosted whole; book_behind = book_behind ∙ ap left whole; number_is = number_is }

-- one that goes on behind a check, which leaves the book as it is
pub checked_made : (mon_client : MonClient) (number : ℕ) (book : Book Authority) (session epoch seq : ℕ) (next : BookReply → Deciding Hosted) (reply : BookReply)
    (begun : Deciding Hosted) (h : HostedTurn) → reply ≡ book_reply book (Check session epoch seq) → AreOne begun (next reply) → IsMade mon_client number book begun h
    → IsMade mon_client number book (Asking (Check session epoch seq) next) h
checked_made mon_client number book session epoch seq next reply begun h e one is =
    let same = with_book-alike book_reply book_after (λ (x y : Hosted). x ≡ y) book begun (next reply) one in
    let hosted : BookReply → Hosted = λ r. (decided_with book (next r)).0 in
    let left : BookReply → Book Authority = λ r. (decided_with book (next r)).1 in
    record { made = is.made ∙ same.0 ∙ ap hosted e; book_behind = is.book_behind ∙ same.1 ∙ ap left e; number_is = is.number_is }

-- ---- calls that are refused

admitted-refused : (given : ℕ × ℕ) (why : BookFault) → admission_reply (Ok given) ≡ Refused why → ⊥
admitted-refused given why same = absurd (cc)

resumed-refused : (given : ℕ × ℕ × ℕ × Bool) (why : BookFault) → resumption_reply (Ok given) ≡ Refused why → ⊥
resumed-refused given why same = absurd (cc)

taken-refused : (given : Unit {0}) (why : BookFault) → message_reply (Ok given) ≡ Refused why → ⊥
taken-refused given why same = absurd (cc)

refused_behind : {X E : Type 0} (why : BookFault) (r : Result X E) (told : Result X E → BookReply) (new : X → Book Authority) (old : Book Authority)
    → ((x : X) → told (Ok x) ≡ Refused why → ⊥) → told r ≡ Refused why → behind r new old ≡ old
refused_behind why (Ok x) told new old never e = absurd (never x e)
refused_behind why (Err fault) told new old never e = refl

refused_still : (book : Book Authority) (call : BookCall Authority) (why : BookFault) → book_reply book call ≡ Refused why → book_after book call ≡ book
refused_still book (Admit owner client server global lossy) why e =
    refused_behind why (admit_reply book client) admission_reply (λ _. admitted book owner client server global lossy) book (λ x is. admitted-refused x why is) e
refused_still book (Resume owner client server global connect) why e =
    refused_behind why (resume_reply owner_entity owner_gid book owner client server global connect) resumption_reply
    (λ given. resumed book given.0 owner global connect) book (λ x is. resumed-refused x why is) e
refused_still book (Check number epoch seq) why e = refl
refused_still book (Take number epoch seq) why e =
    refused_behind why (take_reply book number epoch seq) message_reply (λ _. taken book number seq) book (λ x is. taken-refused x why is) e
refused_still book (End number) why e = absurd (cc)

-- the book behind what is applied is the one behind what was asked
pub applied_behind : (book : Book Authority) (asked : BookCall Authority) (reply : BookReply) (call : Option (BookCall Authority)) → reply ≡ book_reply book asked
    → IsApplied asked reply call → behind_call book call ≡ book_after book asked
applied_behind book asked reply (Some call) e is =
    let left : BookCall Authority → Book Authority = λ c. book_after book c in
    ap left is
applied_behind book asked reply None e is = sym (refused_still book asked is.0 (sym e ∙ is.1))

-- ---- against the rules

waits_due : (due : Turned MonClient IncomingStage) → waits (turn_due abridged_link due) ≡ waits due
waits_due Waits = refl
waits_due (Refuses why opened) = refl
waits_due (Handles row) = refl

true-false : true ≡ false → ⊥
true-false same = absurd (cc)

goes_stays : (mon_client : MonClient) (link : IncomingLink) (due : Turned MonClient IncomingStage) (made : Came IncomingLink (Unit {0})) → turn_made unchanged mon_client made ≡ turn_due abridged_link due
    → waits due ≡ false → Stays link made
goes_stays mon_client link due (came.Waits new) is goes =
    let waiting : Turned MonClient IncomingStage → Bool = λ turned. waits turned in
    absurd (true-false (ap waiting is ∙ waits_due due ∙ goes))
goes_stays mon_client link due (came.Refuses why opened) is goes = tt
goes_stays mon_client link due (came.Handles row) is goes = tt

module _ (handlers : Handlers) (mon_client : MonClient) (at : Moment) (link : IncomingLink) (book : Book Authority) (h : HostedTurn) where
  abbrev due_turn : Hosted × Book Authority
  due_turn = hosted_by handlers mon_client at link book

  due_made : (begun : Deciding Hosted) → AreOne begun (asks_due (incoming_due handlers mon_client at link)) → IsMade mon_client link.number book begun h
      → (as_hosted mon_client h ≡ hosted_due due_turn.0) × (behind_call book h.call ≡ due_turn.1)
  due_made begun one is =
      let same = with_book-alike book_reply book_after (λ (x y : Hosted). x ≡ y) book begun (asks_due (incoming_due handlers mon_client at link)) one in
      let map = with_book_map book_reply book_after hosted_due book (incoming_due handlers mon_client at link) in
      let hosted : Hosted × Book Authority → Hosted = λ done. done.0 in
      let left : Hosted × Book Authority → Book Authority = λ done. done.1 in
      (is.made ∙ same.0 ∙ ap hosted map, is.book_behind ∙ same.1 ∙ ap left map)

  -- one that stays on the link
  pub hosted_as : (begun : Deciding Hosted) → AreOne begun (asks_due (incoming_due handlers mon_client at link)) → IsMade mon_client link.number book begun h
      → Stays link h.came → IsHosted handlers mon_client at link book h
  hosted_as begun one is stays =
      let due = due_made begun one is in
      let turned : Hosted → Turned MonClient IncomingStage = λ hosted. hosted.turned in
      let moved : Hosted → Option ℕ = λ hosted. hosted.moved in
      record {
        come = record { made = ap turned due.0; stays = stays; number_is = is.number_is };
        moved = ap moved due.0;
        book_behind = due.1;
      }

  asked_goes : (call : BookCall Authority) (next : BookReply → Deciding Hosted) (rule : Deciding Hosted) → AreOne (Asking call next) (asks_due rule) → Asked book rule
      → GoesOn book rule
  asked_goes call next (Finished hosted) one goes = absurd one
  asked_goes call next (Asking asked behind) one goes = goes

  -- one for which the book was asked
  pub hosted_asked : (call : BookCall Authority) (next : BookReply → Deciding Hosted) → AreOne (Asking call next) (asks_due (incoming_due handlers mon_client at link))
      → IsMade mon_client link.number book (Asking call next) h → IsHosted handlers mon_client at link book h
  hosted_asked call next one is =
      let due = due_made (Asking call next) one is in
      let turned : Hosted → Turned MonClient IncomingStage = λ hosted. hosted.turned in
      let goes = asked_goes call next (incoming_due handlers mon_client at link) one (turn-asked book handlers (arrived mon_client at link) link.stage) in
      hosted_as (Asking call next) one is (goes_stays mon_client link due_turn.0.turned h.came (ap turned due.0) goes)

-- a turn for which no book is asked
pub hosted_unasked : (handlers : Handlers) (mon_client : MonClient) (at : Moment) (link : IncomingLink) (book : Book Authority) (made : Came IncomingLink (Unit {0}))
    → incoming_due handlers mon_client at link ≡ no_session_moves (unasked (incoming_due handlers mon_client at link)) → IsIncomingTurn handlers mon_client at link made
    → IsHosted handlers mon_client at link book (done_turn made)
hosted_unasked handlers mon_client at link book made none is =
    let Come : Deciding Hosted → Type 0 = λ rule. IsTurn abridged_link unchanged mon_client link (decided_with book rule).0.turned made in
    let moved : Deciding Hosted → Option ℕ = λ rule. (decided_with book rule).0.moved in
    let left : Deciding Hosted → Book Authority = λ rule. (decided_with book rule).1 in
    record { come = subst Come (sym none) is; moved = sym (ap moved none); book_behind = sym (ap left none) }
