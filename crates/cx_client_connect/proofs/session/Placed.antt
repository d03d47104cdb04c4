-- What becomes of the session with a daemon is a write at its place in the table.
use Rattle.std.proofs.Common.{◌≡◌, ℕ, zero, suc, ◌<◌, ◌≤◌, List, [], ◌∷◌, ◌++◌, length, get_or, Bool, true, false, cond, Option, Some, None, Result, Ok, Err, arith, refl, ap, sym, ◌∙◌}
use Rattle.std.specs.Prelude.{IfSome, OnOk, slice_set, nat_lt}
use Rattle.std.specs.List.{find, position, position_or_len}
use Rattle.std.specs.Option.{option_map}
use Rattle.std.proofs.lemmas.List.Quantifiers.{position-Some}
use Rattle.std.proofs.lemmas.List.Sums.{fails_before_first}
use Rattle.std.proofs.lemmas.Bool.Decides.{nat_tests}
use Rattle.cx_base.specs.Names.{Name, same_name}
use Rattle.cx_base.proofs.Names.{same_name_is, same_name_self}
use Rattle.cx_rules_session.specs.Sessions.{HeldSession, put_session, session_with, with_session}
use Rattle.cx_base.specs.declared.operations.Operation.{Operation}
use Rattle.cx_session.specs.Queue.{push_reply}
use Rattle.cx_session.specs.declared.outbox.QueueFault.{QueueFault}
use Rattle.cx_client_connect.specs.session.Table.{having_pushed, in_session, is_with, pushed_unless}

-- ---- a search that finds nothing

fails_where_none : {X : Type 0} (b : Bool) (x : X) → cond b (Some x) None ≡ None → b ≡ false
fails_where_none true x e = cc
fails_where_none false x e = refl

pub all_fail : {X : Type 0} (p : X → Bool) (xs : List X) → position p xs ≡ None → (k : ℕ) (d : X) → k < length xs → p (get_or xs k d) ≡ false
all_fail p xs none k d lt =
    let far = fails_where_none (nat_lt (position_or_len p xs) (length xs)) (position_or_len p xs) none in
    let past : length xs ≤ position_or_len p xs = grind (arith, nat_tests, far) in
    fails_before_first p xs k d (omega (arith, past))

-- ---- a session is put

put_there : (session : HeldSession) (xs : List HeldSession) (i : ℕ) (d : HeldSession) → i < length xs → is_with session.daemon (get_or xs i d) ≡ true
    → ((k : ℕ) → k < i → is_with session.daemon (get_or xs k d) ≡ false) → put_session session xs ≡ slice_set xs i session
put_there session [] i d in_range passes fails = absurd (omega arith)
put_there session (x ∷ xs) zero d in_range passes fails = rw passes refl
put_there session (x ∷ xs) (suc i) d in_range passes fails =
    rw (fails 0 (omega arith)) (ap (λ ys. x ∷ ys) (put_there session xs i d (omega arith) passes (λ k lt. fails (suc k) (omega arith))))

pub put_at : (session : HeldSession) (xs : List HeldSession) (i : ℕ) → position (is_with session.daemon) xs ≡ Some i → put_session session xs ≡ slice_set xs i session
put_at session xs i found =
    let facts = position-Some (is_with session.daemon) xs i session found in
    put_there session xs i session facts.0 facts.1 facts.2

put_behind : (session : HeldSession) (xs : List HeldSession) → ((k : ℕ) → k < length xs → is_with session.daemon (get_or xs k session) ≡ false)
    → put_session session xs ≡ xs ++ session ∷ []
put_behind session [] fails = refl
put_behind session (x ∷ xs) fails =
    rw (fails 0 (omega arith)) (ap (λ ys. x ∷ ys) (put_behind session xs (λ k lt. fails (suc k) (omega arith))))

pub put_last : (session : HeldSession) (xs : List HeldSession) → position (is_with session.daemon) xs ≡ None → put_session session xs ≡ xs ++ session ∷ []
put_last session xs none = put_behind session xs (λ k lt. all_fail (is_with session.daemon) xs none k session lt)

-- ---- the session with a daemon is another one, with that daemon too

module _ (daemon : Name) where
  passes_by : (x : HeldSession) (rest : Option HeldSession) (t : Bool) → is_with daemon x ≡ t → IfSome rest (λ s. is_with daemon s ≡ true)
      → IfSome (cond t (Some x) rest) (λ s. is_with daemon s ≡ true)
  passes_by x rest true e later = e
  passes_by x rest false e later = later

  found_passes : (xs : List HeldSession) → IfSome (session_with daemon xs) (λ s. is_with daemon s ≡ true)
  found_passes [] = tt
  found_passes (x ∷ xs) = passes_by x (session_with daemon xs) (is_with daemon x) refl (found_passes xs)

  module _ (f : HeldSession → HeldSession) (stays : (s : HeldSession) → (f s).daemon ≡ s.daemon) where
    in_first : (x : HeldSession) (xs : List HeldSession) → is_with daemon x ≡ true → in_session daemon f (x ∷ xs) ≡ f x ∷ xs
    in_first x xs e =
        let same : same_name x.daemon (f x).daemon ≡ true = ap (λ d. same_name x.daemon d) (stays x) ∙ same_name_self x.daemon in
        rw (e, same) refl

    behind : (x : HeldSession) (xs : List HeldSession) (found : Option HeldSession) → is_with daemon x ≡ false → IfSome found (λ s. is_with daemon s ≡ true)
        → with_session daemon (option_map f found) (x ∷ xs) ≡ x ∷ with_session daemon (option_map f found) xs
    behind x xs None e passes = rw e refl
    behind x xs (Some s) e passes =
        let other : same_name x.daemon (f s).daemon ≡ false = ap (λ d. same_name x.daemon d) (stays s ∙ same_name_is s.daemon daemon passes) ∙ e in
        rw other refl

    in_rest : (x : HeldSession) (xs : List HeldSession) → is_with daemon x ≡ false → in_session daemon f (x ∷ xs) ≡ x ∷ in_session daemon f xs
    in_rest x xs e = rw e (behind x xs (session_with daemon xs) e (found_passes xs))

    in_there : (xs : List HeldSession) (i : ℕ) (d : HeldSession) → i < length xs → is_with daemon (get_or xs i d) ≡ true
        → ((k : ℕ) → k < i → is_with daemon (get_or xs k d) ≡ false) → in_session daemon f xs ≡ slice_set xs i (f (get_or xs i d))
    in_there [] i d in_range passes fails = absurd (omega arith)
    in_there (x ∷ xs) zero d in_range passes fails = in_first x xs passes
    in_there (x ∷ xs) (suc i) d in_range passes fails =
        in_rest x xs (fails 0 (omega arith)) ∙ ap (λ ys. x ∷ ys) (in_there xs i d (omega arith) passes (λ k lt. fails (suc k) (omega arith)))

    pub in_place : (xs : List HeldSession) (i : ℕ) (d : HeldSession) → position (is_with daemon) xs ≡ Some i → in_session daemon f xs ≡ slice_set xs i (f (get_or xs i d))
    in_place xs i d found =
        let facts = position-Some (is_with daemon) xs i d found in
        in_there xs i d facts.0 facts.1 facts.2

    in_none_there : (xs : List HeldSession) → ((k : ℕ) (d : HeldSession) → k < length xs → is_with daemon (get_or xs k d) ≡ false) → in_session daemon f xs ≡ xs
    in_none_there [] fails = refl
    in_none_there (x ∷ xs) fails =
        in_rest x xs (fails 0 x (omega arith)) ∙ ap (λ ys. x ∷ ys) (in_none_there xs (λ k d lt. fails (suc k) d (omega arith)))

    pub in_none : (xs : List HeldSession) → position (is_with daemon) xs ≡ None → in_session daemon f xs ≡ xs
    in_none xs none = in_none_there xs (all_fail (is_with daemon) xs none)

-- ---- an operation waits

pushed_daemon : (session : HeldSession) (operation : Operation) (reply : Result ℕ QueueFault) → (pushed_unless session operation reply).daemon ≡ session.daemon
pushed_daemon session operation (Ok seq) = refl
pushed_daemon session operation (Err why) = refl

pub stays_pushed : (operation : Operation) (session : HeldSession) → (having_pushed operation session).daemon ≡ session.daemon
stays_pushed operation session = pushed_daemon session operation (push_reply session.queue)

pub pushed_in_place : {X E : Type 0} (daemon : Name) (operation : Operation) (xs : List HeldSession) (i : ℕ) (d new : HeldSession) (r : Result X E)
    → position (is_with daemon) xs ≡ Some i → OnOk r (new ≡ having_pushed operation (get_or xs i d)) → OnOk r (slice_set xs i new ≡ in_session daemon (having_pushed operation) xs)
pushed_in_place daemon operation xs i d new (Ok x) found is =
    let written : HeldSession → List HeldSession = λ s. slice_set xs i s in
    ap written is ∙ sym (in_place daemon (having_pushed operation) (stays_pushed operation) xs i d found)
pushed_in_place daemon operation xs i d new (Err e) found is = tt

pub pushed_nowhere : (daemon : Name) (operation : Operation) (xs : List HeldSession) → position (is_with daemon) xs ≡ None → xs ≡ in_session daemon (having_pushed operation) xs
pushed_nowhere daemon operation xs none = sym (in_none daemon (having_pushed operation) (stays_pushed operation) xs none)
