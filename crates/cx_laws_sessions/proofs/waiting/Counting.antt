-- How many operations of a session were acknowledged, behind each event: these, and those that wait, are all that were sent in it.
use Rattle.std.proofs.Common.{◌≡◌, ◌+◌, ℕ, List, [], ◌∷◌, ◌++◌, length, drop, Option, Some, None, arith, length-append, refl, sym, ap, ◌∙◌, subst}
use Rattle.cx_base.specs.Names.{Name}
use Rattle.cx_base.specs.declared.operations.Operation.{Operation}
use Rattle.cx_journal.specs.declared.entries.Entry.{Entry}
use Rattle.cx_laws_sessions.proofs.queues.Sessions.{HeldIs}
use Rattle.cx_laws_sessions.specs.queues.Waiting.{IsQueued}
use Rattle.cx_laws_sessions.specs.cx_rules_session.specs.Sessions.{HeldSession}
use Rattle.cx_laws_sessions.proofs.waiting.Going.{IsInOrder}
use Rattle.cx_laws_sessions.proofs.waiting.Trimming.{count-left}
use Rattle.cx_laws_sessions.specs.waiting.Heard.{Word, Silent, Took, Begins, Ends}
use Rattle.cx_laws_sessions.specs.waiting.Keeping.{Asks, Becomes, GoesOn}
use Rattle.cx_laws_sessions.specs.waiting.Left.{AreLeft, greatest, last_in}

-- so many were acknowledged in a session
abbrev pub IsCounted : ℕ → Option HeldSession → Type 0
IsCounted count session = HeldIs (λ (s : HeldSession). count + length s.queue.waiting ≡ s.queue.last) session

goes-counted : (word : Word) (sent : List (ℕ × (ℕ × Operation))) (was is : HeldSession) (g : GoesOn word sent was is) (count : ℕ) → count + length g.left ≡ was.queue.last
    → count + length is.queue.waiting ≡ is.queue.last
goes-counted word sent was is g count all =
    let long : length is.queue.waiting ≡ length g.left + length g.now = ap (λ (l : Asks). length l) g.waits ∙ length-append g.left g.now in
    let last : is.queue.last ≡ was.queue.last + length g.now = g.last in
    omega (arith, all, long, last)

stays-counted : (sent : List (ℕ × (ℕ × Operation))) (was is : HeldSession) (count : ℕ) → GoesOn Silent sent was is → count + length was.queue.waiting ≡ was.queue.last
    → count + length is.queue.waiting ≡ is.queue.last
stays-counted sent was is count g all =
    goes-counted Silent sent was is g count (ap (λ (l : Asks). count + length l) g.stays ∙ all)

took-counted : (upto : ℕ) (sent : List (ℕ × (ℕ × Operation))) (was is : HeldSession) (count : ℕ) → IsInOrder was → GoesOn (Took upto) sent was is
    → count + length was.queue.waiting ≡ was.queue.last → greatest (Took upto) was.queue.last count + length is.queue.waiting ≡ is.queue.last
took-counted upto sent was is count run g all =
    goes-counted (Took upto) sent was is g (greatest (Took upto) was.queue.last count) (count-left was.queue.last upto count was.queue.waiting g.left run all g.stays)

-- behind each event
pub step-counted : (word : Word) (sent : List (ℕ × (ℕ × Operation))) (was is : Option HeldSession) (count : ℕ) → HeldIs IsInOrder was → Becomes word sent was is → IsCounted count was
    → IsCounted (greatest word (last_in was) count) is
step-counted Silent sent (Some a) (Some b) count run h all = stays-counted sent a b count h all
step-counted Silent sent (Some a) None count run h all = absurd h
step-counted Silent sent None (Some b) count run h all = absurd h
step-counted Silent sent None None count run h all = tt
step-counted (Took upto) sent (Some a) (Some b) count run h all = took-counted upto sent a b count run h all
step-counted (Took upto) sent (Some a) None count run h all = absurd h
step-counted (Took upto) sent None (Some b) count run h all = absurd h
step-counted (Took upto) sent None None count run h all = tt
step-counted Begins sent was None count run h all = absurd h.1
step-counted Begins sent was (Some b) count run h all =
    let last : b.queue.last ≡ 0 = h.1.0 in
    let none : length b.queue.waiting ≡ 0 = ap (λ (l : Asks). length l) h.1.1 in
    omega (arith, last, none)
step-counted Ends sent was is count run h all = subst (IsCounted 0) (sym h.0) tt

-- ---- what is left

drop-front : (front rest : Asks) → drop (length front) (front ++ rest) ≡ rest
drop-front [] rest = refl
drop-front (first ∷ front) rest = drop-front front rest

pub queued-left : (entries : List Entry) (client : Name) (s : HeldSession) (count : ℕ) → IsQueued entries client s → count + length s.queue.waiting ≡ s.queue.last → AreLeft entries client s count
queued-left entries client s count q all =
    let both : length (q.acknowledged ++ s.queue.waiting) ≡ length q.acknowledged + length s.queue.waiting = length-append q.acknowledged s.queue.waiting in
    let last : s.queue.last ≡ length (q.acknowledged ++ s.queue.waiting) = q.last in
    let same : count ≡ length q.acknowledged = omega (arith, all, both, last) in
    record {
      before = q.before;
      sent = q.acknowledged ++ s.queue.waiting;
      place = q.place;
      numbered = q.numbered;
      last = q.last;
      waits = sym (ap (λ (n : ℕ). drop n (q.acknowledged ++ s.queue.waiting)) same ∙ drop-front q.acknowledged s.queue.waiting);
    }
