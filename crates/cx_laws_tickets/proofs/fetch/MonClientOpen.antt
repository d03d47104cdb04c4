-- Behind a row of an open link of one that logs in: as many requests were said as are counted, and each that waits for generations was said.
use Rattle.std.proofs.Common.{◌≡◌, ℕ, List, [], ◌∷◌, ◌++◌, Option, Some, None, inl, inr, ◌⊎◌, sym, ap, ◌∙◌, subst, append-nil}
use Rattle.std.specs.List.{AllByRecursion}
use Rattle.cx_laws_keys.specs.cx_rules.specs.Requests.{Requests, later}
use Rattle.cx_laws_keys.specs.cx_rules.specs.declared.requests.Waiting.{Waiting}
use Rattle.cx_laws_keys.specs.cx_rules.specs.declared.requests.Want.{Want}
use Rattle.cx_laws_keys.specs.cx_rules.specs.declared.requests.Want.TheVariants.{Tickets, Rotating}
use Rattle.cx_wire.specs.declared.bodies.Request.{Request}
use Rattle.cx_wire.specs.declared.bodies.Request.TheVariants as asked
use Rattle.cx_laws_tickets.specs.cx_laws_keys.proofs.keys.Lists.{all-append, all-map}
use Rattle.cx_laws_tickets.proofs.fetch.AskedKnown.{IsAwaited, IsAwaitedAs}
use Rattle.cx_laws_tickets.proofs.fetch.AskedWords.{Acknowledges, Asked, Asks, Idents, last-append, last_number}
use Rattle.cx_laws_tickets.proofs.fetch.MonClientMoves.{words_of}
use Rattle.cx_laws_tickets.proofs.fetch.MonClientSays.{KeepsRequests, WaitsFor}
use Rattle.cx_laws_tickets.proofs.fetch.Words.{in-left, in-right}

awaited-more : (requests more : List Asked) (tid : ℕ) (want : Want) → IsAwaitedAs requests tid want → IsAwaitedAs (requests ++ more) tid want
awaited-more requests more tid Tickets h = tt
awaited-more requests more tid (Rotating reading) h = in-left (Asks tid reading asked.Rotating) requests more h

all-more : (requests more : List Asked) (waiting : List Waiting) → AllByRecursion (IsAwaited requests) waiting → AllByRecursion (IsAwaited (requests ++ more)) waiting
all-more requests more waiting h =
    all-map (IsAwaited requests) (IsAwaited (requests ++ more)) (λ (w : Waiting) (is : IsAwaited requests w). awaited-more requests more w.tid w.want is) waiting h

later-all : (P : Waiting → Type 0) (waiting : List Waiting) → AllByRecursion P waiting → AllByRecursion P (later waiting)
later-all P [] h = tt
later-all P (first ∷ rest) h = h.1

-- as many are counted
pub counted-behind : (requests : List Asked) (r q : Requests) (word : Option Asked) → KeepsRequests r word q → last_number 0 requests ≡ r.count
    → last_number 0 (requests ++ words_of word) ≡ q.count
counted-behind requests r q None k h = ap (λ (l : List Asked). last_number 0 l) (append-nil requests) ∙ h ∙ sym k.0
counted-behind requests r q (Some (Asks number reading request)) k h = last-append 0 requests (Asks number reading request ∷ []) ∙ sym k.0
counted-behind requests r q (Some (Acknowledges ack)) k h = last-append 0 requests (Acknowledges ack ∷ []) ∙ h ∙ sym k.0
counted-behind requests r q (Some (Idents mon_client gid cookie)) k h = absurd k

new-awaited : (requests : List Asked) (number reading : ℕ) (request : Request) (want : Want) → WaitsFor number reading request want
    → IsAwaitedAs (requests ++ Asks number reading request ∷ []) number want
new-awaited requests number reading request Tickets h = tt
new-awaited requests number reading request (Rotating at) h =
    in-right (Asks number at asked.Rotating) requests (Asks number reading request ∷ [])
    (inl (ap (λ (r : ℕ). Asks number r request) (sym h.0) ∙ ap (λ (q : Request). Asks number at q) h.1))

-- each that waits was said
pub awaited-behind : (requests : List Asked) (r q : Requests) (word : Option Asked) → KeepsRequests r word q → AllByRecursion (IsAwaited requests) r.waiting
    → AllByRecursion (IsAwaited (requests ++ words_of word)) q.waiting
awaited-behind requests r q None k h = by_way k.1
  where
    all_here : AllByRecursion (IsAwaited (requests ++ [])) r.waiting
    all_here = all-more requests [] r.waiting h

    by_way : (q.waiting ≡ r.waiting) ⊎ (q.waiting ≡ later r.waiting) → AllByRecursion (IsAwaited (requests ++ [])) q.waiting
    by_way (inl same) = subst (λ (ws : List Waiting). AllByRecursion (IsAwaited (requests ++ [])) ws) (sym same) all_here
    by_way (inr rest) =
        subst (λ (ws : List Waiting). AllByRecursion (IsAwaited (requests ++ [])) ws) (sym rest) (later-all (IsAwaited (requests ++ [])) r.waiting all_here)
awaited-behind requests r q (Some (Asks number reading request)) (counts, want, waits, is) h =
    let words : List Asked = requests ++ Asks number reading request ∷ [] in
    let new : Waiting = record { tid = number; want = want } in
    subst (λ (ws : List Waiting). AllByRecursion (IsAwaited words) ws) (sym waits)
    (all-append (IsAwaited words) r.waiting (new ∷ []) (all-more requests (Asks number reading request ∷ []) r.waiting h) (new-awaited requests number reading request want is, tt))
awaited-behind requests r q (Some (Acknowledges ack)) k h =
    subst (λ (ws : List Waiting). AllByRecursion (IsAwaited (requests ++ Acknowledges ack ∷ [])) ws) (sym k.1) (all-more requests (Acknowledges ack ∷ []) r.waiting h)
awaited-behind requests r q (Some (Idents mon_client gid cookie)) k h = absurd k
