-- The sessions in which operations are handled, behind one entry more.
use Rattle.std.proofs.Common.{◌≡◌, ℕ, ◌+◌, ◌<◌, ◌≤◌, Bool, true, false, cond, List, [], ◌∷◌, ◌++◌, length, Option, Some, None, refl, sym, ap, ◌∙◌, ◌==◌, arith}
use Rattle.std.specs.Prelude.{◌&&◌, ◌||◌, option_and_then}
use Rattle.std.specs.Option.{option_or}
use Rattle.std.specs.Str.{bytes_eq}
use Rattle.std.proofs.lemmas.Bool.{eqb-true}
use Rattle.std.proofs.lemmas.List.{length-append}
use Rattle.cx_base.specs.Names.{Name, same_name}
use Rattle.cx_base.specs.declared.nodes.NodeName.TheVariants as node
use Rattle.cx_base.proofs.Names.{same_name_is}
use Rattle.cx_journal.specs.Sessions.{is_session_of, is_turn_of, last_such, opened_for, session_at}
use Rattle.cx_journal.specs.declared.entries.Admitted.{Admitted}
use Rattle.cx_journal.specs.declared.entries.Entry.{Entry}
use Rattle.cx_journal.specs.declared.entries.Entry.TheVariants as entry
use Rattle.cx_journal.specs.declared.entries.Handled.{Handled}
use Rattle.cx_audit.specs.indexed.Keyed.{Puts, name_bytes, name_key, put_of, same_key, under}
use Rattle.cx_audit.specs.declared.key.Key.{Key}
use Rattle.cx_audit.proofs.indexed.Filed.{same_bytes}
use Rattle.cx_audit.proofs.indexed.Keys.{key_self}
use Rattle.cx_audit.specs.ruled.Tests.{found_session, restart_key, rounds, turn_key}
use Rattle.cx_audit.specs.declared.known.Known.{Known}
use Rattle.cx_audit.proofs.ruled.Tests.{both, unequal}

-- ---- one entry more

or_cases : {X : Type 0} (b : Bool) (x : X) (o rest : Option X) → option_or (cond b (Some x) o) rest ≡ cond b (Some x) (option_or o rest)
or_cases true x o rest = refl
or_cases false x o rest = refl

last_push : (p : Entry → Bool) (es : List Entry) (e : Entry) → last_such p (es ++ e ∷ []) ≡ cond (p e) (Some e) (last_such p es)
last_push p [] e = refl
last_push p (x ∷ es) e =
    ap (λ o. option_or o (cond (p x) (Some x) None)) (last_push p es e) ∙ or_cases (p e) e (last_such p es) (cond (p x) (Some x) None)

then_cases : (f : Entry → Option Admitted) (b : Bool) (e : Entry) (o : Option Entry) → option_and_then f (cond b (Some e) o) ≡ cond b (f e) (option_and_then f o)
then_cases f true e o = refl
then_cases f false e o = refl

pub session_push : (es : List Entry) (e : Entry) (h : Handled) → session_at (es ++ e ∷ []) h ≡ cond (is_turn_of h e) (opened_for h e) (session_at es h)
session_push es e h = ap (option_and_then (opened_for h)) (last_push (is_turn_of h) es e) ∙ then_cases (opened_for h) (is_turn_of h e) e (last_such (is_turn_of h) es)

-- ---- what opens and ends a session

record Own (h : Handled) (a : Admitted) : Type 0 where
  daemon : a.daemon ≡ h.daemon
  session : a.session ≡ h.session

own : (h : Handled) (a : Admitted) → is_session_of h a ≡ true → Own h a
own h a e =
    let three = both ((a.cookie == h.cookie) && same_name a.daemon h.daemon && (a.session == h.session)) (a.epoch == h.epoch) e in
    let two = both ((a.cookie == h.cookie) && same_name a.daemon h.daemon) (a.session == h.session) three.0 in
    let one = both (a.cookie == h.cookie) (same_name a.daemon h.daemon) two.0 in
    record { daemon = same_name_is a.daemon h.daemon one.1; session = eqb-true a.session h.session two.1 }

opening_own : (h : Handled) (a : Admitted) → (is_session_of h a || false) ≡ true → Own h a
opening_own h a e = own h a (left_or (is_session_of h a) e)
  where
    left_or : (b : Bool) → (b || false) ≡ true → b ≡ true
    left_or true e = refl
    left_or false e = e

ended_own : (d : Name) (n : ℕ) (x : Name) (m : ℕ) → (same_name d x && (n == m)) ≡ true → (d ≡ x) × (n ≡ m)
ended_own d n x m e =
    let parts = both (same_name d x) (n == m) e in
    (same_name_is d x parts.0, eqb-true n m parts.1)

resumed_own : (h : Handled) (a : Admitted) (b ends : Bool) → is_session_of h a ≡ b → (same_name a.daemon h.daemon && (a.session == h.session)) ≡ ends → (b || ends) ≡ true → (a.daemon ≡ h.daemon) × (a.session ≡ h.session)
resumed_own h a true ends is ends_is e = let o = own h a is in (o.daemon, o.session)
resumed_own h a false ends is ends_is e = ended_own a.daemon a.session h.daemon h.session (ends_is ∙ e)

-- ---- one entry more

turn_case : (xs es : List Entry) (h : Handled) (e : Entry) (put turn : Bool) → is_turn_of h e ≡ turn → (turn ≡ true → put ≡ true) → session_at xs h ≡ session_at es h
    → session_at (cond put (xs ++ e ∷ []) xs) h ≡ cond (is_turn_of h e) (opened_for h e) (session_at es h)
turn_case xs es h e true turn is alike was = session_push xs e h ∙ ap (λ o. cond (is_turn_of h e) (opened_for h e) o) was
turn_case xs es h e false true is alike was = unequal (sym (alike refl))
turn_case xs es h e false false is alike was = was ∙ ap (λ b. cond b (opened_for h e) (session_at es h)) (sym is)

put_turn : (xs es : List Entry) (own key : Key) (h : Handled) (e : Entry) → (is_turn_of h e ≡ true → same_key own key ≡ true) → session_at xs h ≡ session_at es h
    → session_at (cond (same_key own key) (xs ++ e ∷ []) xs) h ≡ session_at (es ++ e ∷ []) h
put_turn xs es own key h e alike was = turn_case xs es h e (same_key own key) (is_turn_of h e) refl alike was ∙ sym (session_push es e h)

and_true : (b : Bool) → (b && true) ≡ b
and_true true = refl
and_true false = refl

grows : (lists : Key → List Entry) (key : Key) (own : Option Key) (e : Entry) → length (lists key) ≤ length (put_of own e lists key)
grows lists key None e = omega arith
grows lists key (Some k) e = by_case (same_key k key)
  where
    by_case : (b : Bool) → length (lists key) ≤ length (cond b (lists key ++ e ∷ []) (lists key))
    by_case true = let n : length (lists key ++ e ∷ []) ≡ length (lists key) + 1 = length-append (lists key) (e ∷ []) in omega (arith, n)
    by_case false = omega arith

named_same : (known : Known) (d x : Name) (s t : ℕ) → d ≡ x → s ≡ t → same_key (name_key d s (rounds known d)) (name_key x t (rounds known x)) ≡ true
named_same known d x s t names numbers = rw (names, numbers) (key_self (name_key x t (rounds known x)))

past_round : (known : Known) (x d : Name) (t s r : ℕ) (b : Bool) → rounds known d < r → same_key (name_key x t (rounds known x)) (name_key d s r) ≡ b → b ≡ false
past_round known x d t s r false low is = refl
past_round known x d t s r true low is =
    let parts = both (bytes_eq (name_bytes x) (name_bytes d)) ((rounds known x == r) && (t == s)) is in
    let names : x ≡ d = same_name_is x d (sym (same_bytes x d) ∙ parts.0) in
    let round : rounds known x ≡ r = eqb-true (rounds known x) r (both (rounds known x == r) (t == s) parts.1).0 in
    let same : rounds known d ≡ r = ap (rounds known) (sym names) ∙ round in
    absurd (omega (arith, low, same))

module _ (earlier : List Entry) (old new : Known) (stands : (h : Handled) → found_session old h ≡ session_at earlier h)
    (fresh : (d : Name) (s r : ℕ) → rounds old d < r → under old.turns (name_key d s r) ≡ []) where
  -- where the daemons' rounds stay
  stays : (h : Handled) (e : Entry) (own : Key) → Puts None e old.restarts new.restarts → Puts (Some own) e old.turns new.turns
      → (is_turn_of h e ≡ true → same_key own (name_key h.daemon h.session (rounds old h.daemon)) ≡ true) → found_session new h ≡ session_at (earlier ++ e ∷ []) h
  stays h e own restarts turns alike =
      let key = name_key h.daemon h.session (rounds old h.daemon) in
      ap (λ r. session_at (under new.turns (name_key h.daemon h.session r)) h) (ap length (restarts (name_key h.daemon 0 0)))
      ∙ ap (λ es. session_at es h) (turns key)
      ∙ put_turn (under old.turns key) earlier own key h e alike (stands h)

  unturned : (h : Handled) (e : Entry) → Puts None e old.restarts new.restarts → Puts None e old.turns new.turns → found_session new h ≡ session_at earlier h
  unturned h e restarts turns =
      ap (λ r. session_at (under new.turns (name_key h.daemon h.session r)) h) (ap length (restarts (name_key h.daemon 0 0)))
      ∙ ap (λ es. session_at es h) (turns (name_key h.daemon h.session (rounds old h.daemon)))
      ∙ stands h

  begun : (h : Handled) (x : Name) (same : Bool) → same_name x h.daemon ≡ same → Puts None (entry.Restarted (node.Entity x)) old.turns new.turns
      → rounds new h.daemon ≡ length (cond same (under old.restarts (name_key h.daemon 0 0) ++ entry.Restarted (node.Entity x) ∷ []) (under old.restarts (name_key h.daemon 0 0)))
      → found_session new h ≡ cond same None (session_at earlier h)
  begun h x true is turns count =
      let more : rounds new h.daemon ≡ rounds old h.daemon + 1 = count ∙ length-append (under old.restarts (name_key h.daemon 0 0)) (entry.Restarted (node.Entity x) ∷ []) in
      let low : rounds old h.daemon < rounds new h.daemon = omega (arith, more) in
      let key = name_key h.daemon h.session (rounds new h.daemon) in
      ap (λ es. session_at es h) (turns key ∙ fresh h.daemon h.session (rounds new h.daemon) low)
  begun h x false is turns count =
      ap (λ r. session_at (under new.turns (name_key h.daemon h.session r)) h) count
      ∙ ap (λ es. session_at es h) (turns (name_key h.daemon h.session (rounds old h.daemon)))
      ∙ stands h

  restarted : (h : Handled) (x : Name) → Puts (restart_key (entry.Restarted (node.Entity x))) (entry.Restarted (node.Entity x)) old.restarts new.restarts
      → Puts None (entry.Restarted (node.Entity x)) old.turns new.turns → found_session new h ≡ session_at (earlier ++ entry.Restarted (node.Entity x) ∷ []) h
  restarted h x restarts turns =
      let e = entry.Restarted (node.Entity x) in
      let key = name_key h.daemon 0 0 in
      let same : same_key (name_key x 0 0) key ≡ same_name x h.daemon = ap (λ b. b && true) (same_bytes x h.daemon) ∙ and_true (same_name x h.daemon) in
      let count : rounds new h.daemon ≡ length (cond (same_name x h.daemon) (under old.restarts key ++ e ∷ []) (under old.restarts key)) =
      ap length (restarts key ∙ ap (λ b. cond b (under old.restarts key ++ e ∷ []) (under old.restarts key)) same) in
      begun h x (same_name x h.daemon) refl turns count ∙ sym (session_push earlier e h)

  pub open_more : (e : Entry) → Puts (restart_key e) e old.restarts new.restarts → Puts (turn_key old e) e old.turns new.turns → (h : Handled) → found_session new h ≡ session_at (earlier ++ e ∷ []) h
  open_more (entry.Admitted a) restarts turns h =
      stays h (entry.Admitted a) (name_key a.daemon a.session (rounds old a.daemon)) restarts turns
      (λ turn. let o = opening_own h a turn in named_same old a.daemon h.daemon a.session h.session o.daemon o.session)
  open_more (entry.Resumed a) restarts turns h =
      stays h (entry.Resumed a) (name_key a.daemon a.session (rounds old a.daemon)) restarts turns
      (λ turn.
      let o = resumed_own h a (is_session_of h a) (same_name a.daemon h.daemon && (a.session == h.session)) refl refl turn in
      named_same old a.daemon h.daemon a.session h.session o.0 o.1)
  open_more (entry.Ended d) restarts turns h =
      stays h (entry.Ended d) (name_key d.daemon d.session (rounds old d.daemon)) restarts turns
      (λ turn. let o = ended_own d.daemon d.session h.daemon h.session turn in named_same old d.daemon h.daemon d.session h.session o.0 o.1)
  open_more (entry.Restarted (node.Entity x)) restarts turns h = restarted h x restarts turns
  open_more (entry.Restarted node.Monitor) restarts turns h = unturned h (entry.Restarted node.Monitor) restarts turns ∙ sym (session_push earlier (entry.Restarted node.Monitor) h)
  open_more e restarts turns h = unturned h e restarts turns ∙ sym (session_push earlier e h)

  still_fresh : (e : Entry) (d : Name) (s r : ℕ) → Puts (restart_key e) e old.restarts new.restarts → rounds new d < r → under old.turns (name_key d s r) ≡ []
  still_fresh e d s r restarts low =
      let more : rounds old d ≤ length (put_of (restart_key e) e (under old.restarts) (name_key d 0 0)) = grows (under old.restarts) (name_key d 0 0) (restart_key e) e in
      let count : rounds new d ≡ length (put_of (restart_key e) e (under old.restarts) (name_key d 0 0)) = ap length (restarts (name_key d 0 0)) in
      let before : rounds old d < r = omega (arith, low, more, count) in
      fresh d s r before

  fresh_turn : (e : Entry) (x : Name) (t : ℕ) (d : Name) (s r : ℕ) → Puts (restart_key e) e old.restarts new.restarts → Puts (Some (name_key x t (rounds old x))) e old.turns new.turns
      → rounds new d < r → under new.turns (name_key d s r) ≡ []
  fresh_turn e x t d s r restarts turns low =
      let key = name_key d s r in
      let more : rounds old d ≤ length (put_of (restart_key e) e (under old.restarts) (name_key d 0 0)) = grows (under old.restarts) (name_key d 0 0) (restart_key e) e in
      let count : rounds new d ≡ length (put_of (restart_key e) e (under old.restarts) (name_key d 0 0)) = ap length (restarts (name_key d 0 0)) in
      let before : rounds old d < r = omega (arith, low, more, count) in
      turns key
      ∙ ap (λ b. cond b (under old.turns key ++ e ∷ []) (under old.turns key)) (past_round old x d t s r (same_key (name_key x t (rounds old x)) key) before refl)
      ∙ fresh d s r before

  pub fresh_more : (e : Entry) → Puts (restart_key e) e old.restarts new.restarts → Puts (turn_key old e) e old.turns new.turns
      → (d : Name) (s r : ℕ) → rounds new d < r → under new.turns (name_key d s r) ≡ []
  fresh_more (entry.Admitted a) restarts turns d s r low = fresh_turn (entry.Admitted a) a.daemon a.session d s r restarts turns low
  fresh_more (entry.Resumed a) restarts turns d s r low = fresh_turn (entry.Resumed a) a.daemon a.session d s r restarts turns low
  fresh_more (entry.Ended x) restarts turns d s r low = fresh_turn (entry.Ended x) x.daemon x.session d s r restarts turns low
  fresh_more e restarts turns d s r low = turns (name_key d s r) ∙ still_fresh e d s r restarts low
