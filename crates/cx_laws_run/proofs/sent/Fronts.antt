-- Fronts of a list of operations that are numbered 1, 2, 3 and so on: one more that is among them with the next number makes the front longer.
use Rattle.std.proofs.Common.{◌≡◌, ℕ, ◌+◌, ◌<◌, ◌≤◌, List, [], ◌∷◌, ◌++◌, length, ◌⊎◌, inl, inr, sym, ap, ◌∙◌, subst, arith, length-append}
use Rattle.std.proofs.lemmas.List.{append_assoc}
use Rattle.std.proofs.lemmas.List.Elements.{Contains-append_cases, Contains-push_cases}
use Rattle.std.specs.Prelude.{Contains}
use Rattle.cx_base.specs.declared.operations.Operation.{Operation}
use Rattle.cx_journal.specs.PrefixOfSent.{IsPrefix}
use Rattle.cx_laws_sessions.specs.queues.Sending.{IsNumbered}
use Rattle.cx_session.specs.Queue.{IsRun}

abbrev pub Asks : Type 0
Asks = List (ℕ × Operation)

-- ---- a list as it grows

pub prefix-more : {X : Type 0} (front whole more : List X) → IsPrefix front whole → IsPrefix front (whole ++ more)
prefix-more {X} front whole more p = (p.0 ++ more, ap (λ (l : List X). l ++ more) p.1 ∙ append_assoc front p.0 more)

-- ---- numbers

-- a front of a list that is numbered is numbered
front-run : (xs ys : Asks) (last : ℕ) → IsRun (last + length ys) (xs ++ ys) → IsRun last xs
front-run [] ys last run = tt
front-run (x ∷ xs) ys last run =
    let long : length (xs ++ ys) ≡ length xs + length ys = length-append xs ys in
    let number : x.0 + length (xs ++ ys) ≡ last + length ys = run.0 in
    (omega (arith, long, number), front-run xs ys last run.1)

pub front-numbered : (xs ys : Asks) → IsNumbered (xs ++ ys) → IsNumbered xs
front-numbered xs ys run = front-run xs ys (length xs) (subst (λ (n : ℕ). IsRun n (xs ++ ys)) (length-append xs ys) run)

rest-run : (xs ys : Asks) (last : ℕ) → IsRun last (xs ++ ys) → IsRun last ys
rest-run [] ys last run = run
rest-run (x ∷ xs) ys last run = rest-run xs ys last run.1

none-there : {X : Type 0} (x : X) → Contains [] x → ⊥
none-there x has = omega (arith, has.1)

-- the first, or one of the others
pub cons-cases : {X : Type 0} (y : X) (ys : List X) (x : X) → Contains (y ∷ ys) x → (y ≡ x) ⊎ Contains ys x
cons-cases {X} y ys x has = by_place (Contains-append_cases (y ∷ []) ys x has)
  where
    by_first : Contains {X = X} [] x ⊎ (y ≡ x) → (y ≡ x) ⊎ Contains ys x
    by_first (inl h) = absurd (none-there x h)
    by_first (inr same) = inl same

    by_place : Contains (y ∷ []) x ⊎ Contains ys x → (y ≡ x) ⊎ Contains ys x
    by_place (inl first) = by_first (Contains-push_cases [] y x first)
    by_place (inr later) = inr later

-- one of the front is numbered so that all behind the front fit between it and the last
pub within-front : (xs ys : Asks) (last : ℕ) (x : ℕ × Operation) → IsRun last (xs ++ ys) → Contains xs x → x.0 + length ys ≤ last
within-front [] ys last x run has = absurd (none-there x has)
within-front (y ∷ xs) ys last x run has = by_place (cons-cases y xs x has) (λ later. within-front xs ys last x run.1 later)
  where
    by_place : (y ≡ x) ⊎ Contains xs x → (Contains xs x → x.0 + length ys ≤ last) → x.0 + length ys ≤ last
    by_place (inl same) rest =
        let long : length (xs ++ ys) ≡ length xs + length ys = length-append xs ys in
        let number : y.0 + length (xs ++ ys) ≡ last = run.0 in
        let its : y.0 ≡ x.0 = ap (λ (ask : ℕ × Operation). ask.0) same in
        omega (arith, long, number, its)
    by_place (inr later) rest = rest later

-- one of a run is above the number at which the run would begin one earlier
above-start : (xs : Asks) (last : ℕ) (x : ℕ × Operation) → IsRun last xs → Contains xs x → last < x.0 + length xs
above-start [] last x run has = absurd (none-there x has)
above-start (y ∷ xs) last x run has = by_place (cons-cases y xs x has) (λ later. above-start xs last x run.1 later)
  where
    by_place : (y ≡ x) ⊎ Contains xs x → (Contains xs x → last < x.0 + length xs) → last < x.0 + length (y ∷ xs)
    by_place (inl same) rest =
        let number : y.0 + length xs ≡ last = run.0 in
        let its : y.0 ≡ x.0 = ap (λ (ask : ℕ × Operation). ask.0) same in
        omega (arith, number, its)
    by_place (inr later) rest = let above : last < x.0 + length xs = rest later in omega (arith, above)

-- two of one number are one
pub same-number : (xs : Asks) (last : ℕ) (x y : ℕ × Operation) → IsRun last xs → Contains xs x → Contains xs y → x.0 ≡ y.0 → x ≡ y
same-number [] last x y run has_x has_y same = absurd (none-there x has_x)
same-number (z ∷ xs) last x y run has_x has_y same = by_place (cons-cases z xs x has_x) (cons-cases z xs y has_y) (λ later_x later_y. same-number xs last x y run.1 later_x later_y same)
  where
    by_place : (z ≡ x) ⊎ Contains xs x → (z ≡ y) ⊎ Contains xs y → (Contains xs x → Contains xs y → x ≡ y) → x ≡ y
    by_place (inl first_x) (inl first_y) rest = sym first_x ∙ first_y
    by_place (inl first_x) (inr later_y) rest =
        let number : z.0 + length xs ≡ last = run.0 in
        let its : z.0 ≡ x.0 = ap (λ (ask : ℕ × Operation). ask.0) first_x in
        let above : last < y.0 + length xs = above-start xs last y run.1 later_y in
        absurd (omega (arith, number, its, above, same))
    by_place (inr later_x) (inl first_y) rest =
        let number : z.0 + length xs ≡ last = run.0 in
        let its : z.0 ≡ y.0 = ap (λ (ask : ℕ × Operation). ask.0) first_y in
        let above : last < x.0 + length xs = above-start xs last x run.1 later_x in
        absurd (omega (arith, number, its, above, same))
    by_place (inr later_x) (inr later_y) rest = rest later_x later_y

-- where one has the first number of a run, it is the first of it
first-of-run : (xs : Asks) (last : ℕ) (x : ℕ × Operation) → IsRun last xs → Contains xs x → x.0 + length xs ≡ last + 1 → (rest : Asks) × (xs ≡ x ∷ rest)
first-of-run [] last x run has first = absurd (none-there x has)
first-of-run (y ∷ xs) last x run has first = by_place (cons-cases y xs x has)
  where
    by_place : (y ≡ x) ⊎ Contains xs x → (rest : Asks) × (y ∷ xs ≡ x ∷ rest)
    by_place (inl same) = (xs, ap (λ (ask : ℕ × Operation). ask ∷ xs) same)
    by_place (inr later) =
        let above : last < x.0 + length xs = above-start xs last x run.1 later in
        let its : x.0 + length (y ∷ xs) ≡ last + 1 = first in
        absurd (omega (arith, above, its))

-- ---- a front

-- one more, with the next number
pub prefix-next : (front whole : Asks) (x : ℕ × Operation) → IsNumbered whole → IsPrefix front whole → Contains whole x → x.0 ≡ length front + 1 → IsPrefix (front ++ x ∷ []) whole
prefix-next front whole x numbered p has next = by_place (Contains-append_cases front p.0 x (subst (λ (l : Asks). Contains l x) p.1 has))
  where
    size : length whole ≡ length front + length p.0
    size = ap (λ (l : Asks). length l) p.1 ∙ length-append front p.0

    run : IsRun (length whole) (front ++ p.0)
    run = subst (λ (l : Asks). IsRun (length whole) l) p.1 numbered

    by_rest : (rest : Asks) × (p.0 ≡ x ∷ rest) → IsPrefix (front ++ x ∷ []) whole
    by_rest found =
        (found.0, p.1 ∙ ap (λ (l : Asks). front ++ l) found.1 ∙ sym (append_assoc front (x ∷ []) found.0))

    by_place : Contains front x ⊎ Contains p.0 x → IsPrefix (front ++ x ∷ []) whole
    by_place (inl earlier) =
        let low : x.0 + length p.0 ≤ length whole = within-front front p.0 (length whole) x run earlier in
        absurd (omega (arith, low, size, next))
    by_place (inr later) = by_rest (first-of-run p.0 (length whole) x (rest-run front p.0 (length whole) run) later (omega (arith, size, next)))
