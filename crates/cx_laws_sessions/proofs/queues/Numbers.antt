-- What a client sends under a cookie, whatever the daemon: where each operation has the number behind those that were sent under its cookie before, all that
-- were sent under it are numbered 1, 2, 3 and so on.
use Rattle.std.proofs.Common.{◌≡◌, ◌+◌, ◌==◌, ℕ, Bool, true, false, List, [], ◌∷◌, ◌++◌, length, Option, Some, None, eqb-true, length-append, refl, sym, ap, ◌∙◌, subst}
use Rattle.std.proofs.lemmas.List.{append-nil, append_assoc}
use Rattle.std.proofs.lemmas.List.Elements.{filter_map-append}
use Rattle.std.specs.List.{AllByRecursion, cons_option, filter_map}
use Rattle.std.specs.Prelude.{◌&&◌, if◌then◌else◌}
use Rattle.cx_base.proofs.Names.{same_name_is, same_name_self}
use Rattle.cx_base.specs.Names.{Name, same_name}
use Rattle.cx_base.specs.declared.operations.Operation.{Operation}
use Rattle.cx_journal.specs.Behind.{EachBehind}
use Rattle.cx_journal.specs.PrefixOfSent.{sent_under}
use Rattle.cx_journal.specs.declared.entries.Entry.{Entry}
use Rattle.cx_journal.specs.declared.entries.Entry.TheVariants as entry
use Rattle.cx_journal.specs.declared.entries.Sent.{Sent}
use Rattle.cx_laws_sessions.proofs.queues.Entries.{IsSilent, Untouched, sent_where}
use Rattle.cx_laws_sessions.proofs.queues.Queues.{run-more}
use Rattle.cx_laws_sessions.specs.queues.Sending.{IsNumbered, sent_to}
use Rattle.cx_session.specs.Queue.{IsRun}

-- all that these entries say this client sent under a cookie
abbrev pub all_under : Name → ℕ → List Entry → List (ℕ × Operation)
all_under client cookie entries = filter_map (sent_under cookie client) entries

-- an operation that is sent has the number behind those that were sent under its cookie
abbrev pub IsNextUnder : List Entry → Entry → Type 0
IsNextUnder earlier (entry.Sent s) = s.seq ≡ length (all_under s.client s.cookie earlier) + 1
IsNextUnder earlier _ = Unit {0}

pub silent-next : (es J : List Entry) → AllByRecursion IsSilent es → EachBehind IsNextUnder J es
silent-next [] J h = tt
silent-next (e ∷ es) J h = (one e h.0, silent-next es (J ++ e ∷ []) h.1)
  where
    one : (e : Entry) → IsSilent e → IsNextUnder J e
    one (entry.Sent x) h = absurd h
    one _ h = tt

-- ---- what a journal says of one cookie

-- what was sent, where it was so under this cookie by this client
abbrev pub under_where : Bool → ℕ × Operation → Option (ℕ × Operation)
under_where there what = if there then Some what else None

some-none : (x : ℕ × (ℕ × Operation)) (o : Option (ℕ × (ℕ × Operation))) → o ≡ Some x → o ≡ None → ⊥
some-none x o some none = cc

-- where a client sends nothing to any daemon, it sends nothing under any cookie
none-under : (client : Name) (cookie : ℕ) (e : Entry) → ((daemon : Name) → sent_to client daemon e ≡ None) → sent_under cookie client e ≡ None
none-under client cookie (entry.Sent s) unsent = by_client (same_name s.client client) refl
  where
    by_cookie : (t : Bool) → under_where (t && false) (s.seq, s.operation) ≡ None
    by_cookie true = refl
    by_cookie false = refl

    by_client : (t : Bool) → same_name s.client client ≡ t → sent_under cookie client (entry.Sent s) ≡ None
    by_client true is =
        let here : (same_name s.client client && same_name s.daemon s.daemon) ≡ true = rw (is, same_name_self s.daemon) refl in
        absurd (some-none (s.cookie, (s.seq, s.operation)) (sent_to client s.daemon (entry.Sent s)) (ap (λ (t : Bool). sent_where t (s.cookie, (s.seq, s.operation))) here) (unsent s.daemon))
    by_client false is = ap (λ (t : Bool). under_where ((s.cookie == cookie) && t) (s.seq, s.operation)) is ∙ by_cookie (s.cookie == cookie)
none-under client cookie _ unsent = refl

pub all-none-under : (client : Name) (cookie : ℕ) (es : List Entry) → AllByRecursion (Untouched client) es → all_under client cookie es ≡ []
all-none-under client cookie [] h = refl
all-none-under client cookie (e ∷ es) h =
    ap (λ (o : Option (ℕ × Operation)). cons_option o (all_under client cookie es)) (none-under client cookie e h.0.unsent) ∙ all-none-under client cookie es h.1

-- entries in which the client sends nothing leave it
pub under-still : (client : Name) (cookie : ℕ) (J es : List Entry) → AllByRecursion (Untouched client) es → all_under client cookie (J ++ es) ≡ all_under client cookie J
under-still client cookie J es h =
    filter_map-append (sent_under cookie client) J es ∙ ap (λ (l : List (ℕ × Operation)). all_under client cookie J ++ l) (all-none-under client cookie es h)
    ∙ append-nil (all_under client cookie J)

-- one that is sent, and more in which the client sends nothing
pub under-push : (client : Name) (cookie : ℕ) (J es : List Entry) (s : Sent) (there : Bool) → ((s.cookie == cookie) && same_name s.client client) ≡ there
    → all_under client cookie es ≡ [] → all_under client cookie (J ++ entry.Sent s ∷ es) ≡ all_under client cookie J ++ cons_option (under_where there (s.seq, s.operation)) []
under-push client cookie J es s there is none =
    filter_map-append (sent_under cookie client) J (entry.Sent s ∷ es)
    ∙ ap (λ (l : List (ℕ × Operation)). all_under client cookie J ++ l)
    (ap (λ (t : Bool). cons_option (under_where t (s.seq, s.operation)) (all_under client cookie es)) is
    ∙ ap (λ (l : List (ℕ × Operation)). cons_option (under_where there (s.seq, s.operation)) l) none)

-- ---- all of them are numbered

both-hold : (a b : Bool) → (a && b) ≡ true → (a ≡ true) × (b ≡ true)
both-hold true b h = (refl, h)
both-hold false b h = absurd cc

one-numbered : (client : Name) (cookie : ℕ) (J : List Entry) (e : Entry) → IsNextUnder J e → IsNumbered (all_under client cookie J) → IsNumbered (all_under client cookie (J ++ e ∷ []))
one-numbered client cookie J (entry.Sent s) next run = by_test ((s.cookie == cookie) && same_name s.client client) refl
  where
    by_test : (t : Bool) → ((s.cookie == cookie) && same_name s.client client) ≡ t → IsNumbered (all_under client cookie (J ++ entry.Sent s ∷ []))
    by_test true is =
        let parts : ((s.cookie == cookie) ≡ true) × (same_name s.client client ≡ true) = both-hold (s.cookie == cookie) (same_name s.client client) is in
        let seq : s.seq ≡ length (all_under client cookie J) + 1 =
        next ∙ ap (λ (n : Name). length (all_under n s.cookie J) + 1) (same_name_is s.client client parts.1)
        ∙ ap (λ (k : ℕ). length (all_under client k J) + 1) (eqb-true s.cookie cookie parts.0) in
        let x : ℕ × Operation = (length (all_under client cookie J) + 1, s.operation) in
        let longer : IsRun (length (all_under client cookie J) + 1) (all_under client cookie J ++ x ∷ []) = run-more (length (all_under client cookie J)) s.operation (all_under client cookie J) run in
        let numbered : IsNumbered (all_under client cookie J ++ x ∷ []) =
        subst (λ (n : ℕ). IsRun n (all_under client cookie J ++ x ∷ [])) (sym (length-append (all_under client cookie J) (x ∷ []))) longer in
        subst IsNumbered (sym (under-push client cookie J [] s true is refl))
        (subst (λ (n : ℕ). IsNumbered (all_under client cookie J ++ (n, s.operation) ∷ [])) (sym seq) numbered)
    by_test false is = subst IsNumbered (sym (under-push client cookie J [] s false is refl ∙ append-nil (all_under client cookie J))) run
one-numbered client cookie J e next run = subst IsNumbered (sym (filter_map-append (sent_under cookie client) J (e ∷ []) ∙ append-nil (all_under client cookie J))) run

pub each-numbered : (client : Name) (cookie : ℕ) (es J : List Entry) → IsNumbered (all_under client cookie J) → EachBehind IsNextUnder J es
    → IsNumbered (all_under client cookie (J ++ es))
each-numbered client cookie [] J run h = subst (λ (l : List Entry). IsNumbered (all_under client cookie l)) (sym (append-nil J)) run
each-numbered client cookie (e ∷ es) J run h =
    subst (λ (l : List Entry). IsNumbered (all_under client cookie l)) (append_assoc J (e ∷ []) es)
    (each-numbered client cookie es (J ++ e ∷ []) (one-numbered client cookie J e h.0 run) h.1)
