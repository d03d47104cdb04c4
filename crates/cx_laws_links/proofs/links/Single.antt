-- A client has at most one link to each daemon, those that it waits for among them.
use Rattle.std.proofs.Common.{◌≡◌, ℕ, ◌+◌, ◌<◌, ◌≤◌, ◌==◌, Bool, true, false, cond, nat_lt, List, [], ◌∷◌, ◌++◌, filter, map, Option, Some, None, inl, inr, refl, sym, ap, ◌∙◌, subst, arith}
use Rattle.std.proofs.lemmas.Bool.{or_parts}
use Rattle.std.proofs.lemmas.Bool.Decides.{nat_tests}
use Rattle.std.specs.Prelude.{find, not, if◌then◌else◌}
use Rattle.std.specs.List.{list_any}
use Rattle.cx_base.proofs.Names.{same_name_is, same_name_self}
use Rattle.cx_base.specs.Names.{Name, same_name}
use Rattle.cx_laws_keys.specs.cx_rules.specs.Links.{Link, put_link, without_link}
use Rattle.cx_laws_tickets.specs.cx_run.specs.cx_rules_session.specs.ClientRule.{ClientStage, Dial, ForCall, ForLogin, ToDaemon, ToMonitor, WholeClientNode, dial_of, is_for, is_to, waits_for_call, waits_for_login}
use Rattle.cx_laws_tickets.specs.cx_run.specs.cx_rules_session.specs.Sessions.{Called}
use Rattle.cx_steps.specs.declared.events.Peer.{Peer}
use Rattle.cx_steps.specs.declared.events.Peer.TheVariants as peer

-- ---- counted

abbrev pub one_where : Bool → ℕ
one_where true = 1
one_where false = 0

module _ {X : Type 0} where
  -- how many of these pass
  abbrev pub count_where : (X → Bool) → List X → ℕ
  count_where test [] = 0
  count_where test (x ∷ xs) = one_where (test x) + count_where test xs

  module _ (test : X → Bool) where
    pub count-append : (xs ys : List X) → count_where test (xs ++ ys) ≡ count_where test xs + count_where test ys
    count-append [] ys = omega arith
    count-append (x ∷ xs) ys = let rest = count-append xs ys in omega (arith, rest)

    pub count-filter : (keeps : X → Bool) (xs : List X) → count_where test (filter keeps xs) ≤ count_where test xs
    count-filter keeps [] = omega arith
    count-filter keeps (x ∷ xs) = by_test (keeps x) (count-filter keeps xs)
      where
        by_test : (t : Bool) → count_where test (filter keeps xs) ≤ count_where test xs → count_where test (cond t (x ∷ filter keeps xs) (filter keeps xs)) ≤ one_where (test x) + count_where test xs
        by_test true rest = omega (arith, rest)
        by_test false rest = omega (arith, rest)

    -- none passes of those that are kept because they don't
    pub count-none : (keeps : X → Bool) → ((x : X) → test x ≡ true → keeps x ≡ false) → (xs : List X) → count_where test (filter keeps xs) ≡ 0
    count-none keeps off [] = refl
    count-none keeps off (x ∷ xs) = by_tests (keeps x) (test x) refl refl (count-none keeps off xs)
      where
        by_tests : (t u : Bool) → keeps x ≡ t → test x ≡ u → count_where test (filter keeps xs) ≡ 0 → count_where test (cond t (x ∷ filter keeps xs) (filter keeps xs)) ≡ 0
        by_tests false u k is rest = rest
        by_tests true false k is rest = let zero : one_where (test x) ≡ 0 = ap one_where is in omega (arith, zero, rest)
        by_tests true true k is rest = let no : true ≡ false = sym k ∙ off x is in absurd cc

    pub count-found : (other : X → Bool) (xs : List X) (x : X) → find other xs ≡ Some x → test x ≡ true → 1 ≤ count_where test (filter other xs)
    count-found other [] x e is = absurd cc
    count-found other (y ∷ ys) x e is = by_test (other y) e (λ rest. count-found other ys x rest is)
      where
        by_test : (t : Bool) → cond t (Some y) (find other ys) ≡ Some x → (find other ys ≡ Some x → 1 ≤ count_where test (filter other ys))
            → 1 ≤ count_where test (cond t (y ∷ filter other ys) (filter other ys))
        by_test true found rest =
            let same : y ≡ x = cc in
            let passes : test y ≡ true = ap test same ∙ is in
            let one : one_where (test y) ≡ 1 = ap one_where passes in
            omega (arith, one)
        by_test false found rest = rest found

-- ---- links by their numbers

module _ {Stage : Type 0} (test : Link Stage → Bool) where
  abbrev L : Type 0
  L = Link Stage

  numbers-split : (n : ℕ) (links : List L) → count_where test (filter (λ (l : L). nat_lt l.number n) links) + count_where test (filter (λ (l : L). nat_lt n l.number) links)
      + count_where test (filter (λ (l : L). l.number == n) links) ≡ count_where test links
  numbers-split n [] = refl
  numbers-split n (l ∷ links) = by_tests (nat_lt l.number n) (nat_lt n l.number) (l.number == n) refl refl refl (numbers-split n links)
    where
      below : List L
      below = filter (λ (m : L). nat_lt m.number n) links

      above : List L
      above = filter (λ (m : L). nat_lt n m.number) links

      here : List L
      here = filter (λ (m : L). m.number == n) links

      by_tests : (less more same : Bool) → nat_lt l.number n ≡ less → nat_lt n l.number ≡ more → (l.number == n) ≡ same
          → count_where test (filter (λ (m : L). nat_lt m.number n) links) + count_where test (filter (λ (m : L). nat_lt n m.number) links) + count_where test (filter (λ (m : L). m.number == n) links)
          ≡ count_where test links
          → count_where test (cond less (l ∷ filter (λ (m : L). nat_lt m.number n) links) (filter (λ (m : L). nat_lt m.number n) links))
          + count_where test (cond more (l ∷ filter (λ (m : L). nat_lt n m.number) links) (filter (λ (m : L). nat_lt n m.number) links))
          + count_where test (cond same (l ∷ filter (λ (m : L). m.number == n) links) (filter (λ (m : L). m.number == n) links)) ≡ one_where (test l) + count_where test links
      by_tests true false false a b c rest = omega (arith, rest)
      by_tests false true false a b c rest = omega (arith, rest)
      by_tests false false true a b c rest = omega (arith, rest)
      by_tests true true same a b c rest = absurd (grind (arith, nat_tests))
      by_tests true false true a b c rest = absurd (grind (arith, nat_tests))
      by_tests false true true a b c rest = absurd (grind (arith, nat_tests))
      by_tests false false false a b c rest = absurd (grind (arith, nat_tests))

  put-is : (link : L) (links : List L) → count_where test (put_link link links)
      ≡ count_where test (filter (λ (l : L). nat_lt l.number link.number) links) + (one_where (test link) + count_where test (filter (λ (l : L). nat_lt link.number l.number) links))
  put-is link links = count-append test (filter (λ (l : L). nat_lt l.number link.number) links) (link ∷ filter (λ (l : L). nat_lt link.number l.number) links)

  -- one more, where the link passes
  pub put-more : (link : L) (links : List L) → count_where test (put_link link links) ≤ one_where (test link) + count_where test links
  put-more link links = let is = put-is link links in let split = numbers-split link.number links in omega (arith, is, split)

  -- none more, where the older one of its number passes too
  pub put-moved : (link old : L) (links : List L) → find (λ (l : L). l.number == link.number) links ≡ Some old → (test link ≡ true → test old ≡ true)
      → count_where test (put_link link links) ≤ count_where test links
  put-moved link old links found both = by_test (test link) refl
    where
      by_test : (t : Bool) → test link ≡ t → count_where test (put_link link links) ≤ count_where test links
      by_test true is =
          let one = count-found test (λ (l : L). l.number == link.number) links old found (both is) in
          let put = put-is link links in
          let split = numbers-split link.number links in
          let passes : one_where (test link) ≡ 1 = ap one_where is in
          omega (arith, one, put, split, passes)
      by_test false is =
          let put = put-is link links in
          let split = numbers-split link.number links in
          let fails : one_where (test link) ≡ 0 = ap one_where is in
          omega (arith, put, split, fails)

-- ---- one link to each daemon

abbrev pub to_where : Name → Link ClientStage → Bool
to_where daemon link = is_to daemon link.stage

-- of each daemon, the links to it and those that are waited for are one at most
abbrev pub IsSingle : List (Link ClientStage) → List Dial → Type 0
IsSingle links dials = (daemon : Name) → count_where (to_where daemon) links + count_where (is_for daemon) dials ≤ 1

-- less of both
pub single-less : (links : List (Link ClientStage)) (dials : List Dial) (next : List (Link ClientStage)) (waits : List Dial)
    → ((daemon : Name) → count_where (to_where daemon) next ≤ count_where (to_where daemon) links) → ((daemon : Name) → count_where (is_for daemon) waits ≤ count_where (is_for daemon) dials)
    → IsSingle links dials → IsSingle next waits
single-less links dials next waits fewer less h daemon = let a = fewer daemon in let b = less daemon in let c = h daemon in omega (arith, a, b, c)

-- a link to a daemon is asked for where none lives
pub single-calls : (links : List (Link ClientStage)) (dials : List Dial) (called : Called) → list_any (λ (link : Link ClientStage). is_to called.callee.daemon link.stage) links ≡ false
    → IsSingle links dials → IsSingle links (waits_for_call dials called)
single-calls links dials called free h daemon = by_same (same_name called.callee.daemon daemon) refl
  where
    none-to : (ls : List (Link ClientStage)) → list_any (λ (link : Link ClientStage). is_to called.callee.daemon link.stage) ls ≡ false → count_where (to_where called.callee.daemon) ls ≡ 0
    none-to [] e = refl
    none-to (l ∷ ls) e =
        let both = or_parts (is_to called.callee.daemon l.stage) (list_any (λ (link : Link ClientStage). is_to called.callee.daemon link.stage) ls) e in
        let zero : one_where (is_to called.callee.daemon l.stage) ≡ 0 = ap one_where both.0 in
        let rest = none-to ls both.1 in
        omega (arith, zero, rest)

    appended : count_where (is_for daemon) (waits_for_call dials called)
        ≡ count_where (is_for daemon) (filter (λ (dial : Dial). not (is_for called.callee.daemon dial)) dials) + (one_where (same_name called.callee.daemon daemon) + 0)
    appended = count-append (is_for daemon) (filter (λ (dial : Dial). not (is_for called.callee.daemon dial)) dials) (ForCall called ∷ [])

    by_same : (t : Bool) → same_name called.callee.daemon daemon ≡ t → count_where (to_where daemon) links + count_where (is_for daemon) (waits_for_call dials called) ≤ 1
    by_same true is =
        let same : called.callee.daemon ≡ daemon = same_name_is called.callee.daemon daemon is in
        let links_none : count_where (to_where daemon) links ≡ 0 = subst (λ (d : Name). count_where (to_where d) links ≡ 0) same (none-to links free) in
        let dials_none : count_where (is_for daemon) (filter (λ (dial : Dial). not (is_for called.callee.daemon dial)) dials) ≡ 0 =
        count-none (is_for daemon) (λ (dial : Dial). not (is_for called.callee.daemon dial)) (λ dial passes. ap (λ (d : Name). not (is_for d dial)) same ∙ ap not passes) dials in
        let one : one_where (same_name called.callee.daemon daemon) ≡ 1 = ap one_where is in
        omega (arith, appended, links_none, dials_none, one)
    by_same false is =
        let fewer = count-filter (is_for daemon) (λ (dial : Dial). not (is_for called.callee.daemon dial)) dials in
        let zero : one_where (same_name called.callee.daemon daemon) ≡ 0 = ap one_where is in
        let before = h daemon in
        omega (arith, appended, fewer, zero, before)
