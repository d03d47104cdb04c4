-- What an acknowledgement leaves of a run of numbers, and how many are left.
use Rattle.std.proofs.Common.{◌≡◌, ◌+◌, ◌<◌, ◌≤◌, ℕ, Bool, true, false, cond, [], ◌∷◌, ◌++◌, filter, length, max, min, arith, length-append, refl, sym, ap, subst}
use Rattle.std.proofs.lemmas.Bool.Decides.{nat_tests}
use Rattle.std.specs.List.{AllByRecursion}
use Rattle.std.specs.Prelude.{nat_lt}
use Rattle.cx_base.specs.declared.operations.Operation.{Operation}
use Rattle.cx_laws_sessions.specs.waiting.Keeping.{Asks, IsLeft}
use Rattle.cx_session.specs.Queue.{IsRun}

abbrev above : ℕ → Asks → Asks
above seq asks = filter (λ (ask : ℕ × Operation). nat_lt seq ask.0) asks

-- a number below all of a run leaves all of it
all-above : (seq last : ℕ) (asks : Asks) → IsRun last asks → seq + length asks ≤ last → above seq asks ≡ asks
all-above seq last [] run low = refl
all-above seq last (first ∷ asks) run low =
    let here : seq < first.0 = omega arith in
    let others : filter (λ (ask : ℕ × Operation). nat_lt seq ask.0) asks ≡ asks = all-above seq last asks run.1 (omega arith) in
    grind (arith, nat_tests)

-- what an acknowledgement leaves of a run are those above its number, and those that it covers were the front
pub run-left : (seq last : ℕ) (asks : Asks) → IsRun last asks → IsLeft seq asks (above seq asks)
run-left seq last [] run = record { taken = []; split = refl; covered = tt; above = tt }
run-left seq last (first ∷ asks) run = by_test (nat_lt seq first.0) refl (run-left seq last asks run.1)
  where
    by_test : (t : Bool) → nat_lt seq first.0 ≡ t → IsLeft seq asks (above seq asks) → IsLeft seq (first ∷ asks) (cond t (first ∷ above seq asks) (above seq asks))
    by_test true is rest =
        let here : seq < first.0 = grind (arith, nat_tests) in
        let number : first.0 + length asks ≡ last = run.0 in
        let whole : above seq asks ≡ asks = all-above seq last asks run.1 (omega (arith, here, number)) in
        record { taken = []; split = ap (λ (l : Asks). first ∷ l) (sym whole); covered = tt; above = (here, rest.above) }
    by_test false is rest =
        let here : first.0 ≤ seq = grind (arith, nat_tests) in
        record { taken = first ∷ rest.taken; split = ap (λ (l : Asks). first ∷ l) rest.split; covered = (here, rest.covered); above = rest.above }

-- ---- how many

-- the end of a run is one
pub run-end : (last : ℕ) (front asks : Asks) → IsRun last (front ++ asks) → IsRun last asks
run-end last [] asks run = run
run-end last (first ∷ front) asks run = run-end last front asks run.1

-- the last of a front that isn't empty
front-most : (last upto : ℕ) (first : ℕ × Operation) (front left : Asks) → IsRun last ((first ∷ front) ++ left) → AllByRecursion (λ (ask : ℕ × Operation). ask.0 ≤ upto) (first ∷ front)
    → last ≤ upto + length left
front-most last upto first [] left run covered =
    let number : first.0 + length left ≡ last = run.0 in
    let low : first.0 ≤ upto = covered.0 in
    omega (arith, number, low)
front-most last upto first (second ∷ front) left run covered = front-most last upto second front left run.1 covered.1

-- the first of what is left
left-least : (last upto : ℕ) (first : ℕ × Operation) (left : Asks) → IsRun last (first ∷ left) → upto < first.0 → upto + length (first ∷ left) ≤ last
left-least last upto first left run more = let number : first.0 + length left ≡ last = run.0 in omega (arith, number, more)

-- where so many were acknowledged before that these and what waited are all, so they are behind an acknowledgement
pub count-left : (last upto before : ℕ) (waited left : Asks) → IsRun last waited → before + length waited ≡ last → IsLeft upto waited left
    → max before (min upto last) + length left ≡ last
count-left last upto before waited left run all l = by_cases l.taken left l.split l.covered l.above (subst (IsRun last) l.split run)
  where
    by_cases : (taken left : Asks) → waited ≡ taken ++ left → AllByRecursion (λ (ask : ℕ × Operation). ask.0 ≤ upto) taken → AllByRecursion (λ (ask : ℕ × Operation). upto < ask.0) left
        → IsRun last (taken ++ left) → max before (min upto last) + length left ≡ last
    by_cases [] [] split covered above run =
        let none : length waited ≡ 0 = ap (λ (l : Asks). length l) split in
        omega (arith, all, none)
    by_cases [] (first ∷ left) split covered above run =
        let same : length waited ≡ length (first ∷ left) = ap (λ (l : Asks). length l) split in
        let low : upto + length (first ∷ left) ≤ last = left-least last upto first left run above.0 in
        omega (arith, all, same, low)
    by_cases (one ∷ taken) [] split covered above run =
        let high : last ≤ upto + length (let none : Asks = [] in none) = front-most last upto one taken [] run covered in
        omega (arith, all, high)
    by_cases (one ∷ taken) (first ∷ left) split covered above run =
        let same : length waited ≡ length ((one ∷ taken) ++ (first ∷ left)) = ap (λ (l : Asks). length l) split in
        let both : length ((one ∷ taken) ++ (first ∷ left)) ≡ length (one ∷ taken) + length (first ∷ left) = length-append (one ∷ taken) (first ∷ left) in
        let low : upto + length (first ∷ left) ≤ last = left-least last upto first left (run-end last (one ∷ taken) (first ∷ left) run) above.0 in
        let high : last ≤ upto + length (first ∷ left) = front-most last upto one taken (first ∷ left) run covered in
        omega (arith, all, same, both, low, high)
