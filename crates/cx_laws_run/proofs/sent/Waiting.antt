-- What waits in a client's session was sent in it, as the journal has it.
use Rattle.std.proofs.Common.{◌≡◌, ℕ, Bool, true, false, List, [], ◌∷◌, ◌++◌, map, Option, Some, None, refl, sym, ap, subst}
use Rattle.std.proofs.lemmas.Bool.{and_parts}
use Rattle.std.proofs.lemmas.List.Elements.{Contains-append_left, Contains-append_right, Contains-push}
use Rattle.std.specs.Prelude.{◌&&◌, Contains, if◌then◌else◌}
use Rattle.std.specs.List.{AllByRecursion, cons_option}
use Rattle.cx_base.proofs.Names.{same_name_is}
use Rattle.cx_base.specs.Names.{Name, same_name}
use Rattle.cx_base.specs.declared.operations.Operation.{Operation}
use Rattle.cx_journal.specs.declared.entries.Entry.{Entry}
use Rattle.cx_journal.specs.declared.entries.Entry.TheVariants as journal
use Rattle.cx_journal.specs.declared.entries.Sent.{Sent}
use Rattle.cx_laws_run.specs.cx_laws_keys.proofs.keys.Known.{Within}
use Rattle.cx_laws_sessions.specs.cx_rules_session.specs.Sessions.{HeldSession, session_with}
use Rattle.cx_laws_sessions.specs.queues.Sending.{all_sent_to, sent_to, under_cookie}
use Rattle.cx_laws_sessions.specs.queues.Waiting.{IsQueued}
use Rattle.cx_laws_sessions.proofs.session.Lists.{found-all}
use Rattle.cx_laws_links.proofs.links.CallSteps.{WasSent}
use Rattle.cx_laws_links.proofs.links.CallWords.{IsHeldHere}
use Rattle.cx_laws_run.proofs.sent.Shown.{OrderFits, SentFits}
use Rattle.cx_laws_run.proofs.sent.State.{SessionFits}

-- ---- of lists

module _ {X : Type 0} where
  all-right : (P : X → Type 0) (xs ys : List X) → AllByRecursion P (xs ++ ys) → AllByRecursion P ys
  all-right P [] ys h = h
  all-right P (x ∷ xs) ys h = all-right P xs ys h.1

  pub all-both : (P Q : X → Type 0) (xs : List X) → AllByRecursion P xs → AllByRecursion Q xs → AllByRecursion (λ (x : X). P x × Q x) xs
  all-both P Q [] h g = tt
  all-both P Q (x ∷ xs) h g = ((h.0, g.0), all-both P Q xs h.1 g.1)

all-unmap : {X Y : Type 0} (P : Y → Type 0) (f : X → Y) (xs : List X) → AllByRecursion P (map f xs) → AllByRecursion (λ (x : X). P (f x)) xs
all-unmap P f [] h = tt
all-unmap P f (x ∷ xs) h = (h.0, all-unmap P f xs h.1)

-- ---- what was sent

module _ (whole : List Entry) (client daemon : Name) where
  -- the cookie, the seq and the operation of what was sent
  abbrev Was : ℕ × (ℕ × Operation) → Type 0
  Was x = Contains whole (journal.Sent (record { client = client; daemon = daemon; cookie = x.0; seq = x.1.0; operation = x.1.1 }))

  of-sent : (s : Sent) (x : ℕ × (ℕ × Operation)) → Contains whole (journal.Sent s) → sent_to client daemon (journal.Sent s) ≡ Some x → Was x
  of-sent s x has is = by_test (same_name s.client client && same_name s.daemon daemon) refl is
    where
      by_test : (t : Bool) → (same_name s.client client && same_name s.daemon daemon) ≡ t
          → (if t then Some (s.cookie, (s.seq, s.operation)) else (let o : Option (ℕ × (ℕ × Operation)) = None in o)) ≡ Some x → Was x
      by_test false e none = absurd cc
      by_test true e some =
          let both = and_parts (same_name s.client client) (same_name s.daemon daemon) e in
          let whose : s.client ≡ client = same_name_is s.client client both.0 in
          let to : s.daemon ≡ daemon = same_name_is s.daemon daemon both.1 in
          let same : (s.cookie, (s.seq, s.operation)) ≡ x = cc in
          subst Was same (subst (λ (m : Name). Contains whole (journal.Sent (record { client = client; daemon = m; cookie = s.cookie; seq = s.seq; operation = s.operation }))) to
          (subst (λ (m : Name). Contains whole (journal.Sent (record { client = m; daemon = s.daemon; cookie = s.cookie; seq = s.seq; operation = s.operation }))) whose has))

  of-entry : (e : Entry) (x : ℕ × (ℕ × Operation)) → Contains whole e → sent_to client daemon e ≡ Some x → Was x
  of-entry (journal.Sent s) x has is = of-sent s x has is
  of-entry _ x has is = absurd cc

  all-were : (es : List Entry) → ((e : Entry) → Contains es e → Contains whole e) → AllByRecursion Was (all_sent_to client daemon es)
  all-were [] within = tt
  all-were (e ∷ es) within =
      by_entry (sent_to client daemon e) refl (all-were es (λ other has. within other (Contains-append_right (e ∷ []) es other has)))
    where
      by_entry : (o : Option (ℕ × (ℕ × Operation))) → sent_to client daemon e ≡ o → AllByRecursion Was (all_sent_to client daemon es) → AllByRecursion Was (cons_option o (all_sent_to client daemon es))
      by_entry None is rest = rest
      by_entry (Some x) is rest = (of-entry e x (within e (Contains-append_left (e ∷ []) es e (Contains-push [] e))) is, rest)

-- what waits in a session was sent in it
waiting-sent : (J : List Entry) (client : Name) (session : HeldSession) → IsQueued J client session → AllByRecursion (WasSent J client session.client_cookie) session.queue.waiting
waiting-sent J client session q = told session.queue.waiting (all-right Was-in q.acknowledged session.queue.waiting in-session)
  where
    Was-in : ℕ × Operation → Type 0
    Was-in order = Was J client session.daemon (session.client_cookie, order)

    in-session : AllByRecursion Was-in (q.acknowledged ++ session.queue.waiting)
    in-session = all-unmap (Was J client session.daemon) (λ (order : ℕ × Operation). (session.client_cookie, order)) (q.acknowledged ++ session.queue.waiting)
        (all-right (Was J client session.daemon) q.before (under_cookie session.client_cookie (q.acknowledged ++ session.queue.waiting))
        (subst (AllByRecursion (Was J client session.daemon)) q.place (all-were J client session.daemon J (λ e has. has))))

    told : (orders : List (ℕ × Operation)) → AllByRecursion Was-in orders → AllByRecursion (WasSent J client session.client_cookie) orders
    told [] h = tt
    told (order ∷ orders) h = ((session.daemon, h.0), told orders h.1)

-- so the session of a link is the one that is held with its daemon, and what waits in it was sent and has spellings
pub held-here : (J K : List Entry) (client : Name) (sessions : List HeldSession) (daemon : Name) (cookie : ℕ) → Within J K → AllByRecursion (IsQueued J client) sessions
    → AllByRecursion SessionFits sessions → ((session : HeldSession) → session_with daemon sessions ≡ Some session → session.client_cookie ≡ cookie)
    → IsHeldHere (SentFits K client) (Some cookie) (session_with daemon sessions)
held-here J K client sessions daemon cookie w queued fits of = by_found (session_with daemon sessions) refl
  where
    both : (session : HeldSession) (orders : List (ℕ × Operation)) → AllByRecursion (WasSent J client session.client_cookie) orders → AllByRecursion OrderFits orders
        → AllByRecursion (SentFits K client session.client_cookie) orders
    both session [] h g = tt
    both session (order ∷ orders) h g = (((h.0.0, w.has _ h.0.1), g.0), both session orders h.1 g.1)

    by_found : (found : Option HeldSession) → session_with daemon sessions ≡ found → IsHeldHere (SentFits K client) (Some cookie) found
    by_found None is = tt
    by_found (Some session) is = (
      ap (λ (k : ℕ). let o : Option ℕ = Some k in o) (sym (of session is)),
      both session session.queue.waiting (waiting-sent J client session (found-all (IsQueued J client) _ sessions session queued is)) (found-all SessionFits _ sessions session fits is).waiting,
    )
