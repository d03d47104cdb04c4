-- What waits in a session, beside what was sent in it: where it is opened, acknowledged, taken up again, and where one more operation is sent.
use Rattle.std.proofs.Common.{◌≡◌, ◌+◌, ◌<◌, ◌≤◌, ℕ, Bool, true, false, cond, List, [], ◌∷◌, ◌++◌, filter, length, Option, Some, arith, length-append, refl, sym, ap, ◌∙◌, subst}
use Rattle.std.proofs.lemmas.Bool.Decides.{nat_tests}
use Rattle.std.proofs.lemmas.List.{append-nil, append_assoc, map-append}
use Rattle.std.proofs.lemmas.List.Elements.{filter_map-append}
use Rattle.std.specs.List.{AllByRecursion, cons_option}
use Rattle.std.specs.Prelude.{nat_lt, ◌&&◌}
use Rattle.cx_base.proofs.Names.{same_name_self}
use Rattle.cx_base.specs.Names.{Name, same_name}
use Rattle.cx_base.specs.declared.operations.Operation.{Operation}
use Rattle.cx_journal.specs.declared.entries.Entry.{Entry}
use Rattle.cx_journal.specs.declared.entries.Entry.TheVariants as entry
use Rattle.cx_journal.specs.declared.entries.Sent.{Sent}
use Rattle.cx_laws_sessions.proofs.queues.Entries.{Untouched, all-unsent, none-sent, sent_where}
use Rattle.cx_laws_sessions.specs.queues.Sending.{IsNextSent, IsNumbered, all_sent_to, sent_to, under_cookie}
use Rattle.cx_laws_sessions.specs.queues.Waiting.{IsQueued}
use Rattle.cx_laws_sessions.specs.cx_rules_session.specs.Sessions.{Callee, HeldSession, acknowledged_up_to, new_session}
use Rattle.cx_session.specs.Queue.{IsRun, pushed}

-- ---- runs of numbers

abbrev Asks : Type 0
Asks = List (ℕ × Operation)

-- the end of a run is one
run-end : (last : ℕ) (front asks : Asks) → IsRun last (front ++ asks) → IsRun last asks
run-end last [] asks run = run
run-end last (first ∷ front) asks run = run-end last front asks run.1

-- one number more behind a run
pub run-more : (last : ℕ) (ask : Operation) (asks : Asks) → IsRun last asks → IsRun (last + 1) (asks ++ (last + 1, ask) ∷ [])
run-more last ask [] run = (omega arith, tt)
run-more last ask (first ∷ asks) run = (omega (arith, length-append asks ((last + 1, ask) ∷ [])), run-more last ask asks run.1)

-- a number below all of a run leaves all of it
keeps-all : (seq last : ℕ) (asks : Asks) → IsRun last asks → seq + length asks ≤ last → filter (λ (ask : ℕ × Operation). nat_lt seq ask.0) asks ≡ asks
keeps-all seq last [] run low = refl
keeps-all seq last (first ∷ asks) run low =
    let above : seq < first.0 = omega arith in
    let others : filter (λ (ask : ℕ × Operation). nat_lt seq ask.0) asks ≡ asks = keeps-all seq last asks run.1 (omega arith) in
    grind (arith, nat_tests)

-- what an acknowledgement leaves
abbrev left_of : ℕ → Asks → Asks
left_of seq asks = filter (λ (ask : ℕ × Operation). nat_lt seq ask.0) asks

-- what it takes away is a front of a run
abbrev IsFront : ℕ → Asks → Asks → Type 0
IsFront seq asks taken = asks ≡ taken ++ left_of seq asks

front-taken : (seq last : ℕ) (asks : Asks) → IsRun last asks → (taken : Asks) × IsFront seq asks taken
front-taken seq last [] run = ([], refl)
front-taken seq last (first ∷ asks) run = by_test (nat_lt seq first.0) refl (front-taken seq last asks run.1)
  where
    by_test : (t : Bool) → nat_lt seq first.0 ≡ t → (taken : Asks) × IsFront seq asks taken → (taken : Asks) × IsFront seq (first ∷ asks) taken
    by_test true is rest =
        let above : seq < first.0 = grind (arith, nat_tests) in
        let whole : left_of seq (first ∷ asks) ≡ first ∷ asks =
        ap (λ (t : Bool). cond t (first ∷ left_of seq asks) (left_of seq asks)) is ∙ ap (λ (l : Asks). first ∷ l) (keeps-all seq last asks run.1 (omega arith)) in
        ([], sym whole)
    by_test false is (taken, front) =
        let same : left_of seq asks ≡ left_of seq (first ∷ asks) = sym (ap (λ (t : Bool). cond t (first ∷ left_of seq asks) (left_of seq asks)) is) in
        (first ∷ taken, ap (λ (l : Asks). first ∷ l) front ∙ ap (λ (l : Asks). first ∷ (taken ++ l)) same)

-- ---- a session

module _ (J : List Entry) (client : Name) where
  -- where the journal says nothing more of what was sent to its daemon
  pub still-queued : (K : List Entry) (s : HeldSession) → all_sent_to client s.daemon K ≡ all_sent_to client s.daemon J → IsQueued J client s → IsQueued K client s
  still-queued K s same q = record { before = q.before; acknowledged = q.acknowledged; place = same ∙ q.place; numbered = q.numbered; last = q.last }

  -- nothing was sent yet
  pub new-queued : (callee : Callee) (own server : ℕ) → IsQueued J client (new_session callee own server)
  new-queued callee own server = record {
    before = all_sent_to client callee.daemon J;
    acknowledged = [];
    place = sym (append-nil (all_sent_to client callee.daemon J));
    numbered = tt;
    last = refl;
  }

  -- it is taken up again
  pub again-queued : (count : ℕ) (s : HeldSession) → IsQueued J client s → IsQueued J client (record s { connect_seq = count })
  again-queued count s q = record { before = q.before; acknowledged = q.acknowledged; place = q.place; numbered = q.numbered; last = q.last }

  -- some of what waits is acknowledged
  pub acknowledged-queued : (seq : ℕ) (s : HeldSession) → IsQueued J client s → IsQueued J client (acknowledged_up_to seq s)
  acknowledged-queued seq s q = by_front (front-taken seq (length (q.acknowledged ++ s.queue.waiting)) s.queue.waiting
      (run-end (length (q.acknowledged ++ s.queue.waiting)) q.acknowledged s.queue.waiting q.numbered))
    where
      left : Asks
      left = (acknowledged_up_to seq s).queue.waiting

      by_front : (taken : Asks) × IsFront seq s.queue.waiting taken → IsQueued J client (acknowledged_up_to seq s)
      by_front (taken, front) =
          let same : q.acknowledged ++ s.queue.waiting ≡ (q.acknowledged ++ taken) ++ left =
          ap (λ (l : Asks). q.acknowledged ++ l) front ∙ sym (append_assoc q.acknowledged taken left) in
          record {
            before = q.before;
            acknowledged = q.acknowledged ++ taken;
            place = q.place ∙ ap (λ (l : Asks). q.before ++ under_cookie s.client_cookie l) same;
            numbered = subst IsNumbered same q.numbered;
            last = q.last ∙ ap (λ (l : Asks). length l) same;
          }

  -- ---- one operation more

  module _ (s : HeldSession) (operation : Operation) (q : IsQueued J client s) where
    abbrev pub sent_now : Sent
    sent_now = record { client = client; daemon = s.daemon; cookie = s.client_cookie; seq = s.queue.last + 1; operation = operation }

    abbrev all : Asks
    all = q.acknowledged ++ s.queue.waiting

    -- it is the next one
    pub next-sent : IsNextSent J sent_now
    next-sent = record { before = q.before; session = all; place = q.place; numbered = q.numbered; next = ap (λ (n : ℕ). n + 1) q.last }

    one-sent : sent_to client s.daemon (entry.Sent sent_now) ≡ Some (s.client_cookie, (s.queue.last + 1, operation))
    one-sent =
        let here : (same_name client client && same_name s.daemon s.daemon) ≡ true = rw (same_name_self client, same_name_self s.daemon) refl in
        ap (λ (t : Bool). sent_where t (s.client_cookie, (s.queue.last + 1, operation))) here

    -- and waits
    pub pushed-queued : (es : List Entry) → AllByRecursion (Untouched client) es
        → IsQueued (J ++ entry.Sent sent_now ∷ es) client (record s { queue = pushed s.queue operation })
    pushed-queued es left =
        let x : ℕ × Operation = (s.queue.last + 1, operation) in
        let more : q.acknowledged ++ (s.queue.waiting ++ x ∷ []) ≡ all ++ x ∷ [] = sym (append_assoc q.acknowledged s.queue.waiting (x ∷ [])) in
        let run : IsRun (s.queue.last + 1) (all ++ x ∷ []) = run-more s.queue.last operation all (subst (λ (n : ℕ). IsRun n all) (sym q.last) q.numbered) in
        let long : s.queue.last + 1 ≡ length (all ++ x ∷ []) = ap (λ (n : ℕ). n + 1) q.last ∙ sym (length-append all (x ∷ [])) in
        record {
          before = q.before;
          acknowledged = q.acknowledged;
          place = sent-more es left ∙ ap (λ (l : List (ℕ × (ℕ × Operation))). l ++ (s.client_cookie, x) ∷ []) q.place
              ∙ append_assoc q.before (under_cookie s.client_cookie all) ((s.client_cookie, x) ∷ [])
              ∙ ap (λ (l : List (ℕ × (ℕ × Operation))). q.before ++ l) (sym (map-append (λ (ask : ℕ × Operation). (s.client_cookie, ask)) all (x ∷ [])))
              ∙ ap (λ (l : Asks). q.before ++ under_cookie s.client_cookie l) (sym more);
          numbered = subst IsNumbered (sym more) (subst (λ (n : ℕ). IsRun n (all ++ x ∷ [])) long run);
          last = long ∙ ap (λ (l : Asks). length l) (sym more);
        }
      where
        sent-more : (es : List Entry) → AllByRecursion (Untouched client) es
            → all_sent_to client s.daemon (J ++ entry.Sent sent_now ∷ es) ≡ all_sent_to client s.daemon J ++ (s.client_cookie, (s.queue.last + 1, operation)) ∷ []
        sent-more es left =
            filter_map-append (sent_to client s.daemon) J (entry.Sent sent_now ∷ es)
            ∙ ap (λ (l : List (ℕ × (ℕ × Operation))). all_sent_to client s.daemon J ++ l)
            (ap (λ (o : Option (ℕ × (ℕ × Operation))). cons_option o (all_sent_to client s.daemon es)) one-sent
            ∙ ap (λ (l : List (ℕ × (ℕ × Operation))). (s.client_cookie, (s.queue.last + 1, operation)) ∷ l) (none-sent client s.daemon es (all-unsent client s.daemon es left)))
