-- One ticket of a server that was rotated, and the rest.
use Rattle.std.proofs.Common.{◌≡◌, ℕ, ◌+◌, ◌<◌, ◌≤◌, Bool, true, false, cond, List, [], ◌∷◌, ◌++◌, All, length, get_or, drop, Option, Some, None, Result, Ok, Err, refl, sym, ap, subst, ◌∙◌, append_assoc, drop-cons, add-one, length-drop, suc, arith}
use Rattle.std.specs.Prelude.{IfOk, IfSome, OnOk, option_to_list}
use Rattle.std.specs.declared.alloc.AllocError.{AllocError}
use Rattle.std.proofs.lemmas.List.{append-nil, nil_from_length}
use Rattle.std.proofs.lemmas.List.Elements.{All-append, All-cons, All-nil}
use Rattle.cx_base.specs.declared.kinds.EntityType.{EntityType}
use Rattle.cx_journal.specs.declared.faults.LoginFault.{LoginFault}
use Rattle.cx_keyserver.specs.Issuing.{Asked, IsIssued, IsOpenable, issued, server_behind, wants_memory}
use Rattle.cx_keyserver.specs.Servers.{Server, rotated_server}
use Rattle.cx_keyserver.specs.declared.refusals.IssueRefusal.{IssueRefusal}
use Rattle.cx_keyserver.specs.declared.refusals.IssueRefusal.TheVariants.{UnknownEntity, NotAService, NoCaps, IdsSpent, OutOfMemory}
use Rattle.cx_keyserver.specs.declared.tickets.Ticket.{Ticket}
use Rattle.cx_rules.specs.Tickets.{issued_before, issued_for}
use Rattle.cx_mon_grants.specs.Handing.{IsWhole}
use Rattle.cx_mon_grants.specs.Issuing.{IsRotated, and_rest, behind_all, one_of}
use Rattle.cx_mon_grants.proofs.Whole.{openable_whole}

-- ---- one

answered : (due answer : Result Ticket IssueRefusal) → IsIssued due answer → wants_memory answer ≡ false → answer ≡ due
answered due (Ok ticket) is ample = sym is
answered due (Err UnknownEntity) is ample = sym is
answered due (Err NotAService) is ample = sym is
answered due (Err NoCaps) is ample = sym is
answered due (Err IdsSpent) is ample = sym is
answered due (Err OutOfMemory) is ample = absurd cc

-- what is answered is what the rotated server issues
one_issued : (now : ℕ) (draw : List ℕ) (server : Server) (asked : Asked) (answer : Result Ticket IssueRefusal) → IsRotated now draw server
    → IsIssued (issued (rotated_server now draw server) asked) answer → wants_memory answer ≡ false → one_of answer ≡ one_of (issued server asked)
one_issued now draw server asked answer rotated is ample =
    let same : issued (rotated_server now draw server) asked ≡ issued server asked = ap (λ (s : Server). issued s asked) rotated in
    ap one_of (answered (issued (rotated_server now draw server) asked) answer is ample ∙ same)

-- the server stays as it is
pub server_stays : (now : ℕ) (draw : List ℕ) (server new : Server) (answer : Result Ticket IssueRefusal) → IsRotated now draw server → new ≡ server_behind server now draw answer → new ≡ server
server_stays now draw server new answer rotated is = is ∙ by_memory (wants_memory answer)
  where
    by_memory : (wants : Bool) → cond wants server (rotated_server now draw server) ≡ server
    by_memory true = refl
    by_memory false = rotated

-- the ticket that is issued is whole
one_whole : (server : Server) (asked : Asked) (answer : Result Ticket IssueRefusal) → IfOk answer (IsOpenable server asked) → IfOk (one_of answer) (λ ticket. IfSome ticket IsWhole)
one_whole server asked (Ok ticket) opens = openable_whole server asked ticket opens
one_whole server asked (Err UnknownEntity) opens = tt
one_whole server asked (Err NotAService) opens = tt
one_whole server asked (Err NoCaps) opens = tt
one_whole server asked (Err IdsSpent) opens = tt
one_whole server asked (Err OutOfMemory) opens = tt

-- the same of what is answered of it
pub one_due : (now : ℕ) (draw : List ℕ) (server : Server) (asked : Asked) (answer : Result Ticket IssueRefusal) (r : Result (Result (Option Ticket) LoginFault) AllocError)
    → IsRotated now draw server → IsIssued (issued (rotated_server now draw server) asked) answer
    → IfOk r (λ one. one ≡ one_of answer) → OnOk r (wants_memory answer ≡ false) → IfOk r (λ one. one ≡ one_of (issued server asked))
one_due now draw server asked answer (Ok one) rotated is made ample = made ∙ one_issued now draw server asked answer rotated is ample
one_due now draw server asked answer (Err e) rotated is made ample = tt

pub whole_due : (server : Server) (asked : Asked) (answer : Result Ticket IssueRefusal) (r : Result (Result (Option Ticket) LoginFault) AllocError)
    → IfOk answer (IsOpenable server asked) → IfOk r (λ one. one ≡ one_of answer) → IfOk r (λ one. IfOk one (λ ticket. IfSome ticket IsWhole))
whole_due server asked answer (Ok one) opens made =
    let P : Result (Option Ticket) LoginFault → Type 0 = λ o. IfOk o (λ ticket. IfSome ticket IsWhole) in
    subst P (sym made) (one_whole server asked answer opens)
whole_due server asked answer (Err e) opens made = tt

-- ---- the rest

before_is : (one : Result Ticket IssueRefusal) (rest : Result (List Ticket) LoginFault) → issued_before one rest ≡ and_rest (one_of one) rest
before_is (Ok ticket) rest = refl
before_is (Err UnknownEntity) rest = refl
before_is (Err NotAService) rest = refl
before_is (Err NoCaps) rest = refl
before_is (Err IdsSpent) rest = refl
before_is (Err OutOfMemory) rest = refl

-- the tickets from a place on are the one for the service there, and the rest
issued_at : (server : Server) (ask : EntityType → Asked) (services : List EntityType) (i : ℕ) (d : EntityType) → i < length services
    → issued_for server ask (drop i services) ≡ and_rest (one_of (issued server (ask (get_or services i d)))) (issued_for server ask (drop (i + 1) services))
issued_at server ask services i d lt =
    ap (issued_for server ask) (drop-cons services i d lt)
    ∙ before_is (issued server (ask (get_or services i d))) (issued_for server ask (drop (suc i) services))
    ∙ ap (λ (n : ℕ). and_rest (one_of (issued server (ask (get_or services i d)))) (issued_for server ask (drop n services))) (sym (add-one i))

-- what is due behind one more service
pub step_due : (server held : Server) (ask : EntityType → Asked) (services : List EntityType) (i : ℕ) (d : EntityType) (earlier : List Ticket) (one : Result (Option Ticket) LoginFault) (due : Result (List Ticket) LoginFault)
    → i < length services → held ≡ server → one ≡ one_of (issued held (ask (get_or services i d)))
    → behind_all earlier (issued_for server ask (drop i services)) ≡ due → behind_all earlier (and_rest one (issued_for server ask (drop (i + 1) services))) ≡ due
step_due server held ask services i d earlier one due lt same made before =
    let rest : Result (List Ticket) LoginFault = issued_for server ask (drop (i + 1) services) in
    ap (λ (o : Result (Option Ticket) LoginFault). behind_all earlier (and_rest o rest)) (made ∙ ap (λ (s : Server). one_of (issued s (ask (get_or services i d)))) same)
    ∙ ap (behind_all earlier) (sym (issued_at server ask services i d lt)) ∙ before

-- one more ticket, where there is one
behind_more : (earlier : List Ticket) (one : Option Ticket) (rest : Result (List Ticket) LoginFault) → behind_all (earlier ++ option_to_list one) rest ≡ behind_all earlier (and_rest (Ok one) rest)
behind_more earlier (Some ticket) (Ok tickets) = ap (λ (ts : List Ticket). let r : Result (List Ticket) LoginFault = Ok ts in r) (append_assoc earlier (ticket ∷ []) tickets)
behind_more earlier (Some ticket) (Err why) = refl
behind_more earlier None rest = ap (λ (ts : List Ticket). behind_all ts rest) (append-nil earlier)

pub due_behind : (server : Server) (ask : EntityType → Asked) (services : List EntityType) (i : ℕ) (earlier new : List Ticket) (one : Result (Option Ticket) LoginFault) (ticket : Option Ticket) (due : Result (List Ticket) LoginFault)
    → one ≡ Ok ticket → new ≡ earlier ++ option_to_list ticket
    → behind_all earlier (and_rest one (issued_for server ask (drop (i + 1) services))) ≡ due → behind_all new (issued_for server ask (drop (i + 1) services)) ≡ due
due_behind server ask services i earlier new one ticket due is appended before =
    let rest : Result (List Ticket) LoginFault = issued_for server ask (drop (i + 1) services) in
    ap (λ (ts : List Ticket). behind_all ts rest) appended ∙ behind_more earlier ticket rest
    ∙ ap (λ (o : Result (Option Ticket) LoginFault). behind_all earlier (and_rest o rest)) (sym is) ∙ before

pub whole_behind : (earlier new : List Ticket) (one : Result (Option Ticket) LoginFault) (ticket : Option Ticket) → one ≡ Ok ticket → new ≡ earlier ++ option_to_list ticket
    → All IsWhole earlier → IfOk one (λ t. IfSome t IsWhole) → All IsWhole new
whole_behind earlier new one ticket is appended whole one_whole =
    let P : Result (Option Ticket) LoginFault → Type 0 = λ o. IfOk o (λ t. IfSome t IsWhole) in
    subst (All IsWhole) (sym appended) (All-append IsWhole earlier (option_to_list ticket) whole (of_one ticket (subst P is one_whole)))
  where
    of_one : (t : Option Ticket) → IfSome t IsWhole → All IsWhole (option_to_list t)
    of_one None h = All-nil IsWhole
    of_one (Some t) h = All-cons IsWhole t [] h (All-nil IsWhole)

-- no more
pub behind_none : (server : Server) (ask : EntityType → Asked) (services : List EntityType) (i : ℕ) (earlier : List Ticket) → length services ≤ i
    → behind_all earlier (issued_for server ask (drop i services)) ≡ Ok earlier
behind_none server ask services i earlier past =
    ap (λ (left : List EntityType). behind_all earlier (issued_for server ask left)) (nil_from_length (drop i services) (omega (arith, length-drop i services)))
    ∙ ap (λ (ts : List Ticket). let r : Result (List Ticket) LoginFault = Ok ts in r) (append-nil earlier)
