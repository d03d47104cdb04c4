-- Runs of sequence numbers.
use Rattle.std.proofs.Common.{ℕ, ◌≡◌, ◌+◌, ◌≤◌, ◌<◌, Bool, true, false, nat_lt, List, [], ◌∷◌, ◌++◌, length, filter, arith, length-append, refl}
use Rattle.std.proofs.lemmas.Bool.Decides.{nat_tests}
use Rattle.cx_base.specs.declared.operations.Operation.{Operation}
use Rattle.cx_session.specs.Queue.{IsRun}

-- one more number behind a run
pub run-push : (last : ℕ) (ask : Operation) (asks : List (ℕ × Operation)) → IsRun last asks → IsRun (last + 1) (asks ++ (last + 1, ask) ∷ [])
run-push last ask [] run = (omega arith, tt)
run-push last ask (first ∷ asks) run = (omega (arith, length-append asks ((last + 1, ask) ∷ [])), run-push last ask asks run.1)

-- a number below all of a run leaves all of it
pub keeps_all : (seq last : ℕ) (asks : List (ℕ × Operation)) → IsRun last asks → seq + length asks ≤ last → filter (λ ask. nat_lt seq ask.0) asks ≡ asks
keeps_all seq last [] run low = refl
keeps_all seq last (first ∷ asks) run low =
    let above : seq < first.0 = omega arith in
    let others : filter (λ ask. nat_lt seq ask.0) asks ≡ asks = keeps_all seq last asks run.1 (omega arith) in
    grind (arith, nat_tests)

-- one number more in front: it stays with all behind it, or goes
run-filter_from : (seq last : ℕ) (first : ℕ × Operation) (asks : List (ℕ × Operation)) → IsRun last (first ∷ asks) → IsRun last (filter (λ ask. nat_lt seq ask.0) asks) → (b : Bool) → nat_lt seq first.0 ≡ b → IsRun last (filter (λ ask. nat_lt seq ask.0) (first ∷ asks))
run-filter_from seq last first asks run rest false is = rw is rest
run-filter_from seq last first asks run rest true is =
    let above : seq < first.0 = grind (arith, nat_tests) in
    rw (is, keeps_all seq last asks run.1 (omega arith)) run

-- what is left of a run is a run
pub run-filter : (seq last : ℕ) (asks : List (ℕ × Operation)) → IsRun last asks → IsRun last (filter (λ ask. nat_lt seq ask.0) asks)
run-filter seq last [] run = tt
run-filter seq last (first ∷ asks) run =
    run-filter_from seq last first asks run (run-filter seq last asks run.1) (nat_lt seq first.0) refl
