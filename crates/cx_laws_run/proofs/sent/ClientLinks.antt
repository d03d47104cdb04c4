-- The links of a client behind a step on one of them, and its sessions with the other daemons: what is so of the other links stays so, and of each daemon it
-- still has one link, or waits for one.
use Rattle.std.proofs.Common.{◌≡◌, ℕ, ◌==◌, ◌+◌, ◌≤◌, Bool, true, false, cond, nat_lt, List, [], ◌∷◌, filter, Option, Some, None, inl, inr, refl, sym, ap, ◌∙◌, subst, arith}
use Rattle.std.proofs.lemmas.Bool.{eq-eqb}
use Rattle.std.proofs.lemmas.Bool.Decides.{nat_tests}
use Rattle.std.specs.Prelude.{not, if◌then◌else◌}
use Rattle.std.specs.List.{AllByRecursion}
use Rattle.cx_base.proofs.Names.{same_name_is, same_name_self}
use Rattle.cx_base.specs.Names.{Name, same_name}
use Rattle.cx_laws_sessions.specs.cx_rules.specs.Links.{Link, put_link, without_link}
use Rattle.cx_laws_sessions.specs.cx_rules_session.specs.ClientRule.{ClientStage, Dial, is_for}
use Rattle.cx_laws_sessions.specs.cx_rules_session.specs.Sessions.{HeldSession, put_session, session_with, with_session, without_session}
use Rattle.cx_steps.specs.Onto.{SomeOf}
use Rattle.cx_laws_run.specs.cx_laws_keys.proofs.keys.Lists.{all-append}
use Rattle.cx_laws_sessions.proofs.queues.Sessions.{HeldIs}
use Rattle.cx_laws_links.proofs.links.Single.{IsSingle, count-append, count-filter, count_where, one_where, put-more, to_where}

-- ---- counted

module _ {X : Type 0} (test : X → Bool) where
  -- one that is there and passes is counted
  pub there-counted : (x : X) (xs : List X) → SomeOf (λ (y : X). y ≡ x) xs → test x ≡ true → 1 ≤ count_where test xs
  there-counted x [] h is = absurd h
  there-counted x (y ∷ xs) (inl here) is =
      let one : one_where (test y) ≡ 1 = ap (λ (z : X). one_where (test z)) here ∙ ap one_where is in
      omega (arith, one)
  there-counted x (y ∷ xs) (inr there) is = let rest = there-counted x xs there is in omega (arith, rest)

  abbrev pub NonePasses : List X → Type 0
  NonePasses xs = AllByRecursion (λ (x : X). test x ≡ false) xs

  -- none passes where none is counted
  none-passes : (xs : List X) → count_where test xs ≤ 0 → NonePasses xs
  none-passes [] h = tt
  none-passes (x ∷ xs) h = by_test (test x) refl (λ less. none-passes xs less)
    where
      by_test : (t : Bool) → test x ≡ t → (count_where test xs ≤ 0 → NonePasses xs) → NonePasses (x ∷ xs)
      by_test true is rest = let one : one_where (test x) ≡ 1 = ap one_where is in absurd (omega (arith, h, one))
      by_test false is rest = let zero : one_where (test x) ≡ 0 = ap one_where is in (is, rest (omega (arith, h, zero)))

  pub none-counted : (xs : List X) → NonePasses xs → count_where test xs ≡ 0
  none-counted [] h = refl
  none-counted (x ∷ xs) h =
      let zero : one_where (test x) ≡ 0 = ap one_where h.0 in
      let rest = none-counted xs h.1 in
      omega (arith, zero, rest)

-- what is so of those that are kept by a test, is so behind it
pub all-kept : {X : Type 0} (P Q : X → Type 0) (keeps : X → Bool) → ((x : X) → keeps x ≡ true → P x → Q x) → (xs : List X) → AllByRecursion P xs → AllByRecursion Q (filter keeps xs)
all-kept P Q keeps f [] h = tt
all-kept {X} P Q keeps f (x ∷ xs) h = by_test (keeps x) refl (all-kept P Q keeps f xs h.1)
  where
    by_test : (t : Bool) → keeps x ≡ t → AllByRecursion Q (filter keeps xs) → AllByRecursion Q (cond t (x ∷ filter keeps xs) (filter keeps xs))
    by_test true is rest = (f x is h.0, rest)
    by_test false is rest = rest

-- ---- links

less-apart : (m n : ℕ) → nat_lt m n ≡ true → m ≡ n → ⊥
less-apart m n less same = grind (arith, nat_tests)

more-apart : (m n : ℕ) → nat_lt n m ≡ true → m ≡ n → ⊥
more-apart m n less same = grind (arith, nat_tests)

not-same : (m n : ℕ) → not (m == n) ≡ true → m ≡ n → ⊥
not-same m n off same = none (m == n) (eq-eqb m n same) off
  where
    none : (t : Bool) → t ≡ true → not t ≡ true → ⊥
    none true is off = absurd cc
    none false is off = absurd cc

module _ {Stage : Type 0} where
  -- a link is put in place of the one with its number
  pub all-put : (P Q : Link Stage → Type 0) (link : Link Stage) → Q link → ((l : Link Stage) → (l.number ≡ link.number → ⊥) → P l → Q l) → (links : List (Link Stage)) → AllByRecursion P links → AllByRecursion Q (put_link link links)
  all-put P Q link is others links h =
      all-append Q (filter (λ (l : Link Stage). nat_lt l.number link.number) links) (link ∷ filter (λ (l : Link Stage). nat_lt link.number l.number) links)
      (all-kept P Q (λ (l : Link Stage). nat_lt l.number link.number) (λ l less p. others l (less-apart l.number link.number less) p) links h)
      (is, all-kept P Q (λ (l : Link Stage). nat_lt link.number l.number) (λ l more p. others l (more-apart l.number link.number more) p) links h)

  -- the one of a number is shut
  pub all-without : (P Q : Link Stage → Type 0) (number : ℕ) → ((l : Link Stage) → (l.number ≡ number → ⊥) → P l → Q l) → (links : List (Link Stage)) → AllByRecursion P links → AllByRecursion Q (without_link number links)
  all-without P Q number others links h = all-kept P Q (λ (l : Link Stage). not (l.number == number)) (λ l off p. others l (not-same l.number number off) p) links h

  -- where one link at most passes a test, and this one does, no link of another number does
  pub alone : (test : Link Stage → Bool) (link : Link Stage) (links : List (Link Stage)) → SomeOf (λ (l : Link Stage). l ≡ link) links → test link ≡ true → count_where test links ≤ 1
      → AllByRecursion (λ (l : Link Stage). (l.number ≡ link.number → ⊥) → test l ≡ false) links
  alone test link [] h is one = tt
  alone test link (l ∷ links) (inl here) is one =
      let passes : one_where (test l) ≡ 1 = ap (λ (m : Link Stage). one_where (test m)) here ∙ ap one_where is in (
        λ apart. absurd (apart (ap (λ (m : Link Stage). m.number) here)),
        all-of links (none-passes test links (omega (arith, one, passes))),
      )
    where
      all-of : (ls : List (Link Stage)) → NonePasses test ls → AllByRecursion (λ (m : Link Stage). (m.number ≡ link.number → ⊥) → test m ≡ false) ls
      all-of [] h = tt
      all-of (m ∷ ls) h = (λ apart. h.0, all-of ls h.1)
  alone test link (l ∷ links) (inr there) is one = by_test (test l) refl (there-counted test link links there is) (λ less. alone test link links there is less)
    where
      by_test : (t : Bool) → test l ≡ t → 1 ≤ count_where test links
          → (count_where test links ≤ 1 → AllByRecursion (λ (m : Link Stage). (m.number ≡ link.number → ⊥) → test m ≡ false) links) → AllByRecursion (λ (m : Link Stage). (m.number ≡ link.number → ⊥) → test m ≡ false) (l ∷ links)
      by_test true passes some rest = let here : one_where (test l) ≡ 1 = ap one_where passes in absurd (omega (arith, one, here, some))
      by_test false fails some rest = let here : one_where (test l) ≡ 0 = ap one_where fails in (λ apart. fails, rest (omega (arith, one, here)))

  -- so it is counted alone where it is put in its place
  pub put-alone : (test : Link Stage → Bool) (link next : Link Stage) (links : List (Link Stage)) → SomeOf (λ (l : Link Stage). l ≡ link) links → test link ≡ true → count_where test links ≤ 1 → next.number ≡ link.number
      → count_where test (put_link next links) ≤ 1
  put-alone test link next links there is one same =
      let apart = alone test link links there is one in
      let below : count_where test (filter (λ (l : Link Stage). nat_lt l.number next.number) links) ≡ 0 =
      none-counted test (filter (λ (l : Link Stage). nat_lt l.number next.number) links) (all-kept (λ (l : Link Stage). (l.number ≡ link.number → ⊥) → test l ≡ false) (λ (l : Link Stage). test l ≡ false) (λ (l : Link Stage). nat_lt l.number next.number)
      (λ l less p. p (λ e. less-apart l.number next.number less (e ∙ sym same))) links apart) in
      let above : count_where test (filter (λ (l : Link Stage). nat_lt next.number l.number) links) ≡ 0 =
      none-counted test (filter (λ (l : Link Stage). nat_lt next.number l.number) links) (all-kept (λ (l : Link Stage). (l.number ≡ link.number → ⊥) → test l ≡ false) (λ (l : Link Stage). test l ≡ false) (λ (l : Link Stage). nat_lt next.number l.number)
      (λ l more p. p (λ e. more-apart l.number next.number more (e ∙ sym same))) links apart) in
      let appended = count-append test (filter (λ (l : Link Stage). nat_lt l.number next.number) links) (next ∷ filter (λ (l : Link Stage). nat_lt next.number l.number) links) in
      let at_most = one-most (test next) in
      omega (arith, appended, below, above, at_most)
    where
      one-most : (t : Bool) → one_where t ≤ 1
      one-most true = omega arith
      one-most false = omega arith

-- ---- one link to each daemon

-- a link goes on, to the same daemon
pub single-put : (links : List (Link ClientStage)) (dials : List Dial) (link next : Link ClientStage) → SomeOf (λ (l : Link ClientStage). l ≡ link) links → next.number ≡ link.number
    → ((daemon : Name) → to_where daemon next ≡ true → to_where daemon link ≡ true) → IsSingle links dials → IsSingle (put_link next links) dials
single-put links dials link next there same calls h daemon = by_test (to_where daemon next) refl
  where
    by_test : (t : Bool) → to_where daemon next ≡ t → count_where (to_where daemon) (put_link next links) + count_where (is_for daemon) dials ≤ 1
    by_test false is =
        let more = put-more (to_where daemon) next links in
        let zero : one_where (to_where daemon next) ≡ 0 = ap one_where is in
        let before = h daemon in
        omega (arith, more, zero, before)
    by_test true is =
        let before = h daemon in
        let some = there-counted (to_where daemon) link links there (calls daemon is) in
        let one = put-alone (to_where daemon) link next links there (calls daemon is) (omega (arith, before)) same in
        omega (arith, before, some, one)

-- a link is shut
pub single-shut : (links : List (Link ClientStage)) (dials : List Dial) (number : ℕ) → IsSingle links dials → IsSingle (without_link number links) dials
single-shut links dials number h daemon =
    let fewer = count-filter (to_where daemon) (λ (l : Link ClientStage). not (l.number == number)) links in
    let before = h daemon in
    omega (arith, fewer, before)

-- ---- sessions

-- none is with a daemon without which they are kept
find-without : (daemon : Name) (sessions : List HeldSession) (session : HeldSession) → session_with daemon (without_session daemon sessions) ≡ Some session → ⊥
find-without daemon [] session e = absurd cc
find-without daemon (s ∷ sessions) session e = by_test (same_name s.daemon daemon) refl e (λ found. find-without daemon sessions session found)
  where
    by_test : (t : Bool) → same_name s.daemon daemon ≡ t → session_with daemon (cond (not t) (s ∷ without_session daemon sessions) (without_session daemon sessions)) ≡ Some session
        → (session_with daemon (without_session daemon sessions) ≡ Some session → ⊥) → ⊥
    by_test true is found rest = rest found
    by_test false is found rest = rest (sym (ap (λ (t : Bool). cond t (Some s) (session_with daemon (without_session daemon sessions))) is) ∙ found)

find-put : (new : HeldSession) (sessions : List HeldSession) → session_with new.daemon (put_session new sessions) ≡ Some new
find-put new [] = ap (λ (t : Bool). cond t (Some new) (let o : Option HeldSession = None in o)) (same_name_self new.daemon)
find-put new (s ∷ sessions) = by_test (same_name s.daemon new.daemon) refl (find-put new sessions)
  where
    by_test : (t : Bool) → same_name s.daemon new.daemon ≡ t → session_with new.daemon (put_session new sessions) ≡ Some new
        → session_with new.daemon (if t then new ∷ sessions else s ∷ put_session new sessions) ≡ Some new
    by_test true is rest = ap (λ (t : Bool). cond t (Some new) (session_with new.daemon sessions)) (same_name_self new.daemon)
    by_test false is rest = ap (λ (t : Bool). cond t (Some s) (session_with new.daemon (put_session new sessions))) is ∙ rest

-- the one with a daemon is the one that was put there
pub with-own : (daemon : Name) (put : Option HeldSession) (sessions : List HeldSession) → HeldIs (λ (s : HeldSession). s.daemon ≡ daemon) put → (session : HeldSession)
    → session_with daemon (with_session daemon put sessions) ≡ Some session → put ≡ Some session
with-own daemon None sessions is session found = absurd (find-without daemon sessions session found)
with-own daemon (Some new) sessions is session found =
    sym (subst (λ (d : Name). session_with d (put_session new sessions) ≡ Some new) is (find-put new sessions)) ∙ found

-- the one with another daemon is as before
find-filter : (daemon other : Name) → same_name daemon other ≡ false → (sessions : List HeldSession) → session_with other (without_session daemon sessions) ≡ session_with other sessions
find-filter daemon other apart [] = refl
find-filter daemon other apart (s ∷ sessions) = by_test (same_name s.daemon daemon) refl (find-filter daemon other apart sessions)
  where
    by_test : (t : Bool) → same_name s.daemon daemon ≡ t → session_with other (without_session daemon sessions) ≡ session_with other sessions
        → session_with other (cond (not t) (s ∷ without_session daemon sessions) (without_session daemon sessions)) ≡ session_with other (s ∷ sessions)
    by_test true is rest =
        let off : same_name s.daemon other ≡ false = ap (λ (d : Name). same_name d other) (same_name_is s.daemon daemon is) ∙ apart in
        rest ∙ sym (ap (λ (t : Bool). cond t (Some s) (session_with other sessions)) off)
    by_test false is rest = ap (λ (o : Option HeldSession). cond (same_name s.daemon other) (Some s) o) rest

find-other : (new : HeldSession) (other : Name) → same_name new.daemon other ≡ false → (sessions : List HeldSession) → session_with other (put_session new sessions) ≡ session_with other sessions
find-other new other apart [] = ap (λ (t : Bool). cond t (Some new) (let o : Option HeldSession = None in o)) apart
find-other new other apart (s ∷ sessions) = by_test (same_name s.daemon new.daemon) refl (find-other new other apart sessions)
  where
    by_test : (t : Bool) → same_name s.daemon new.daemon ≡ t → session_with other (put_session new sessions) ≡ session_with other sessions
        → session_with other (if t then new ∷ sessions else s ∷ put_session new sessions) ≡ session_with other (s ∷ sessions)
    by_test true is rest =
        let off : same_name s.daemon other ≡ false = ap (λ (d : Name). same_name d other) (same_name_is s.daemon new.daemon is) ∙ apart in
        ap (λ (t : Bool). cond t (Some new) (session_with other sessions)) apart ∙ sym (ap (λ (t : Bool). cond t (Some s) (session_with other sessions)) off)
    by_test false is rest = ap (λ (o : Option HeldSession). cond (same_name s.daemon other) (Some s) o) rest

pub with-other : (daemon other : Name) → same_name daemon other ≡ false → (put : Option HeldSession) (sessions : List HeldSession) → HeldIs (λ (s : HeldSession). s.daemon ≡ daemon) put
    → session_with other (with_session daemon put sessions) ≡ session_with other sessions
with-other daemon other apart None sessions is = find-filter daemon other apart sessions
with-other daemon other apart (Some new) sessions is = find-other new other (ap (λ (d : Name). same_name d other) is ∙ apart) sessions
