-- Links in their places: what is said of the others where one is put into its place or left out, and of the one that is put.
use Rattle.std.proofs.Common.{◌≡◌, ◌==◌, ℕ, Bool, true, false, cond, List, [], ◌∷◌, ◌++◌, filter, Option, Some, None, refl, sym, ◌∙◌, arith}
use Rattle.std.proofs.lemmas.Bool.{eq-eqb}
use Rattle.std.proofs.lemmas.Bool.Decides.{nat_tests}
use Rattle.std.specs.Prelude.{IfSome, nat_lt, not}
use Rattle.std.specs.List.{AllByRecursion}
use Rattle.cx_laws_run.specs.cx_laws_keys.proofs.keys.Lists.{all-append}
use Rattle.cx_laws_run.specs.cx_rules.specs.Links.{Link, put_link, without_link}
use Rattle.cx_laws_run.specs.cx_rules.specs.Rows.{links_behind}

filtered-others : {X : Type 0} (P Q : X → Type 0) (test : X → Bool) → ((x : X) → test x ≡ true → P x → Q x) → (xs : List X) → AllByRecursion P xs → AllByRecursion Q (filter test xs)
filtered-others P Q test f [] h = tt
filtered-others {X} P Q test f (x ∷ xs) h = by_test (test x) refl (filtered-others P Q test f xs h.1)
  where
    by_test : (t : Bool) → test x ≡ t → AllByRecursion Q (filter test xs) → AllByRecursion Q (cond t (x ∷ filter test xs) (filter test xs))
    by_test true is rest = (f x is h.0, rest)
    by_test false is rest = rest

less-apart : (m n : ℕ) → nat_lt m n ≡ true → m ≡ n → ⊥
less-apart m n less same = grind (arith, nat_tests)

more-apart : (m n : ℕ) → nat_lt n m ≡ true → m ≡ n → ⊥
more-apart m n less same = grind (arith, nat_tests)

not-same : (m n : ℕ) → not (m == n) ≡ true → m ≡ n → ⊥
not-same m n off same = none (m == n) (eq-eqb m n same) off
  where
    none : (t : Bool) → t ≡ true → not t ≡ true → ⊥
    none true is off = absurd cc
    none false is off = absurd cc

module _ {Stage : Type 0} (P Q : Link Stage → Type 0) (number : ℕ) (others : (l : Link Stage) → (l.number ≡ number → ⊥) → P l → Q l) where
  pub put-others : (link : Link Stage) (links : List (Link Stage)) → link.number ≡ number → Q link → AllByRecursion P links → AllByRecursion Q (put_link link links)
  put-others link links same here h =
      all-append Q (filter (λ (l : Link Stage). nat_lt l.number link.number) links) _
      (filtered-others P Q (λ (l : Link Stage). nat_lt l.number link.number) (λ l less p. others l (λ e. less-apart l.number link.number less (e ∙ sym same)) p) links h)
      (here, filtered-others P Q (λ (l : Link Stage). nat_lt link.number l.number) (λ l more p. others l (λ e. more-apart l.number link.number more (e ∙ sym same)) p) links h)

  pub without-others : (links : List (Link Stage)) → AllByRecursion P links → AllByRecursion Q (without_link number links)
  without-others links h = filtered-others P Q (λ (l : Link Stage). not (l.number == number)) (λ l off p. others l (λ e. not-same l.number number off e) p) links h

  -- behind a row of the link of this number
  pub behind-others : (links : List (Link Stage)) (bytes : List ℕ) (left : Option (Link Stage)) → IfSome left (λ l. (l.number ≡ number) × Q (record l { sent = l.sent ++ bytes }))
      → AllByRecursion P links → AllByRecursion Q (links_behind links number bytes left)
  behind-others links bytes None here h = without-others links h
  behind-others links bytes (Some link) here h = put-others (record link { sent = link.sent ++ bytes }) links here.0 here.1 h

-- ---- the one that is put

behind-first : {X : Type 0} (P : X → Type 0) (xs : List X) (y : X) (ys : List X) → AllByRecursion P (xs ++ y ∷ ys) → P y
behind-first P [] y ys h = h.0
behind-first P (x ∷ xs) y ys h = behind-first P xs y ys h.1

pub put-itself : {Stage : Type 0} (P : Link Stage → Type 0) (link : Link Stage) (links : List (Link Stage)) → AllByRecursion P (put_link link links) → P link
put-itself {Stage} P link links h = behind-first P (filter (λ (l : Link Stage). nat_lt l.number link.number) links) link _ h
