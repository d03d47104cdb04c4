-- A history that gets one entry more.
use Rattle.std.proofs.Common.{◌≡◌, ◌≢◌, ℕ, ◌+◌, List, [], ◌∷◌, ◌++◌, length, Bool, true, false, refl, ap, ◌∙◌, arith}
use Rattle.std.specs.Prelude.{if◌then◌else◌, nat_eq}
use Rattle.std.proofs.lemmas.Bool.Decides.{nat_tests}
use Rattle.std.proofs.lemmas.List.{append-nil}
use Rattle.cx_base.specs.Names.{Name}
use Rattle.cx_session.specs.Book.{Book}
use Rattle.cx_session.specs.Answers.{replied, after}
use Rattle.cx_hall.specs.declared.entry.HallEntry.{HallEntry}
use Rattle.cx_hall.specs.History.{MakesEntry, behind_entries, AreAnswered}
use Rattle.cx_hall.specs.Passes.{own}

at_zero : (n : ℕ) → 0 + n ≡ n
at_zero n = omega arith

module _ {O : Type 0} where
  own_step : (b : Bool) (n : ℕ) (x : HallEntry O) (xs ys zs : List (ℕ × HallEntry O)) → xs ≡ ys ++ zs → (if b then (n, x) ∷ xs else xs) ≡ (if b then (n, x) ∷ ys else ys) ++ zs
  own_step true n x xs ys zs e = ap (λ l. (n, x) ∷ l) e
  own_step false n x xs ys zs e = e

  pub own-append : (by n : ℕ) (xs : List (HallEntry O)) (e : HallEntry O) → own by n (xs ++ e ∷ []) ≡ own by n xs ++ own by (n + length xs) (e ∷ [])
  own-append by n [] e = ap (λ k. own by k (e ∷ [])) (omega arith)
  own-append by n (x ∷ xs) e =
      let k : n + 1 + length xs ≡ n + length (x ∷ xs) = omega arith in
      own_step (nat_eq x.by by) n x _ _ _ (own-append by (n + 1) xs e ∙ ap (λ k. own by (n + 1) xs ++ own by k (e ∷ [])) k)

  own_one : (x : ℕ × HallEntry O) (b : Bool) → b ≡ true → (if b then x ∷ [] else []) ≡ x ∷ []
  own_one x true is = refl
  own_one x false is = absurd (cc is)

  own_none : (x : ℕ × HallEntry O) (b : Bool) → b ≡ false → (if b then x ∷ [] else []) ≡ []
  own_none x true is = absurd (cc is)
  own_none x false is = refl

  pub own-mine : (by : ℕ) (xs : List (HallEntry O)) (e : HallEntry O) → e.by ≡ by → own by 0 (xs ++ e ∷ []) ≡ own by 0 xs ++ (length xs, e) ∷ []
  own-mine by xs e same =
      let yes : nat_eq e.by by ≡ true = grind (arith, nat_tests) in
      own-append by 0 xs e ∙ ap (λ k. own by 0 xs ++ own by k (e ∷ [])) (at_zero (length xs)) ∙ ap (λ l. own by 0 xs ++ l) (own_one (length xs, e) (nat_eq e.by by) yes)

  pub own-other : (by : ℕ) (xs : List (HallEntry O)) (e : HallEntry O) → e.by ≢ by → own by 0 (xs ++ e ∷ []) ≡ own by 0 xs
  own-other by xs e apart =
      let no : nat_eq e.by by ≡ false = grind (arith, nat_tests) in
      own-append by 0 xs e ∙ ap (λ k. own by 0 xs ++ own by k (e ∷ [])) (at_zero (length xs)) ∙ ap (λ l. own by 0 xs ++ l) (own_none (length xs, e) (nat_eq e.by by) no) ∙ append-nil (own by 0 xs)

  module _ (entity_of : O → Name) (gid_of : O → ℕ) where
    pub answered-append : (book : Book O) (xs : List (HallEntry O)) (e : HallEntry O) → AreAnswered entity_of gid_of book xs → MakesEntry e.call → e.reply ≡ replied entity_of gid_of (behind_entries entity_of gid_of book xs) e.call → AreAnswered entity_of gid_of book (xs ++ e ∷ [])
    answered-append book [] e h made is = (made, is, tt)
    answered-append book (x ∷ xs) e h made is =
        (h.0, h.1, answered-append (after entity_of gid_of book x.call) xs e h.2 made is)

    pub behind_more : (book : Book O) (xs : List (HallEntry O)) (e : HallEntry O) → behind_entries entity_of gid_of book (xs ++ e ∷ []) ≡ after entity_of gid_of (behind_entries entity_of gid_of book xs) e.call
    behind_more book [] e = refl
    behind_more book (x ∷ xs) e = behind_more (after entity_of gid_of book x.call) xs e
