-- What a link to a daemon changes of a client, put back as it is, leaves the client as it is.
use Rattle.std.proofs.Common.{◌≡◌, ◌∙◌, ℕ, Bool, true, false, cond, List, [], ◌∷◌, Option, Some, None, refl, sym, ap}
use Rattle.std.specs.Prelude.{IfSome}
use Rattle.cx_base.specs.Names.{Name, same_name}
use Rattle.cx_client_events.specs.cx_client_connect.specs.presenting.Rows.{changed}
use Rattle.cx_client_events.specs.cx_client_connect.specs.declared.rows.Change.{Change}
use Rattle.cx_client_events.specs.cx_client_connect.specs.declared.rows.Change.TheVariants.{Counts}
use Rattle.cx_node.specs.cx_rules.specs.Holdings.{MonClient}
use Rattle.cx_base.proofs.Names.{same_name_is, same_name_self}
use Rattle.cx_client_events.specs.cx_rules_session.specs.ClientRule.{Dial, WholeClient, caller_to, with_caller}
use Rattle.cx_client_events.specs.cx_rules_session.specs.Sessions.{HeldSession, session_with, with_session}
use Rattle.cx_client_events.specs.cx_client_connect.specs.session.Table.{is_with}
use Rattle.cx_client_events.specs.Machine.{KeptClient}

module _ (daemon : Name) where
  passes_by : (x : HeldSession) (rest : Option HeldSession) (t : Bool) → is_with daemon x ≡ t → IfSome rest (λ s. is_with daemon s ≡ true)
      → IfSome (cond t (Some x) rest) (λ s. is_with daemon s ≡ true)
  passes_by x rest true e later = e
  passes_by x rest false e later = later

  -- the session with a daemon is with it
  pub found_passes : (xs : List HeldSession) → IfSome (session_with daemon xs) (λ s. is_with daemon s ≡ true)
  found_passes [] = tt
  found_passes (x ∷ xs) = passes_by x (session_with daemon xs) (is_with daemon x) refl (found_passes xs)

  stays_by : (x : HeldSession) (xs : List HeldSession) (o : Option HeldSession) → is_with daemon x ≡ false → IfSome o (λ s. is_with daemon s ≡ true)
      → with_session daemon o xs ≡ xs → with_session daemon o (x ∷ xs) ≡ x ∷ xs
  stays_by x xs None e passes is = rw e (ap (λ (ys : List HeldSession). x ∷ ys) is)
  stays_by x xs (Some s) e passes is =
      let named : Name → Bool = λ d. same_name x.daemon d in
      let other : same_name x.daemon s.daemon ≡ false = ap named (same_name_is s.daemon daemon passes) ∙ e in
      rw other (ap (λ (ys : List HeldSession). x ∷ ys) is)

  -- the session with a daemon, put back, leaves all as they are
  pub session_stays : (xs : List HeldSession) → with_session daemon (session_with daemon xs) xs ≡ xs
  session_stays [] = refl
  session_stays (x ∷ xs) = by_test (is_with daemon x) refl (session_stays xs)
    where
      by_test : (t : Bool) → is_with daemon x ≡ t → with_session daemon (session_with daemon xs) xs ≡ xs
          → with_session daemon (cond t (Some x) (session_with daemon xs)) (x ∷ xs) ≡ x ∷ xs
      by_test true e is = rw (same_name_self x.daemon) refl
      by_test false e is = stays_by x xs (session_with daemon xs) e (found_passes xs) is

pub caller_kept : (daemon : Name) (own : WholeClient) → with_caller daemon own (caller_to daemon own) ≡ own
caller_kept daemon own = let holds : List HeldSession → WholeClient = λ ss. record own { sessions = ss } in ap holds (session_stays daemon own.sessions)

-- another count of connections leaves the sessions as they are
pub counted : (daemon : Name) (kept : KeptClient) (inside mon_client : MonClient) (dials : List Dial) (sessions : List HeldSession) (room : ℕ) (change : Change) (count : ℕ)
    → (let it : KeptClient = record { client = record { mon_client = inside; dials = dials; sessions = sessions }; room = room } in it) ≡ kept → change ≡ Counts count
    → mon_client ≡ record inside { global_seq = count }
    → (let it : WholeClient = record { mon_client = mon_client; dials = dials; sessions = sessions } in it) ≡ with_caller daemon kept.client (changed (caller_to daemon kept.client) change)
counted daemon kept inside mon_client dials sessions room change count view ch is =
    let own : WholeClient = record { mon_client = inside; dials = dials; sessions = sessions } in
    let client_of : KeptClient → WholeClient = λ k. k.client in
    let asks : MonClient → WholeClient = λ a. record { mon_client = a; dials = dials; sessions = sessions } in
    let holds : List HeldSession → WholeClient = λ ss. record { mon_client = record inside { global_seq = count }; dials = dials; sessions = ss } in
    let goes : WholeClient → Change → WholeClient = λ o k. with_caller daemon o (changed (caller_to daemon o) k) in
    ap asks is ∙ ap holds (sym (session_stays daemon sessions)) ∙ ap (λ k. goes own k) (sym ch) ∙ ap (λ o. goes o change) (ap client_of view)
