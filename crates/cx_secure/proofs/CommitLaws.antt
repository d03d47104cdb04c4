-- Of a run of commits each begins where the one before ended.
use Rattle.std.proofs.Common.{ℕ, ◌<◌, ◌≤◌, List, [], ◌∷◌, ◌++◌, arith}
use Rattle.cx_secure.specs.Commits.{IsRun, Uses}
use Rattle.cx_secure.specs.declared.sealing.SealedAhead.{SealedAhead}

run_rises : (counter end : ℕ) (run : List SealedAhead) → IsRun counter run end → counter ≤ end
run_rises counter end [] is = omega (arith, is)
run_rises counter end (a ∷ more) is = omega (arith, is.0, a.rises, run_rises a.next end more is.1)

run_split : (counter end : ℕ) (before behind : List SealedAhead) (a : SealedAhead)
    → IsRun counter (before ++ a ∷ behind) end → (counter ≤ a.from) × IsRun a.next behind end
run_split counter end [] behind a is = (omega (arith, is.0), is.1)
run_split counter end (b ∷ before) behind a is =
    let rest = run_split b.next end before behind a is.1 in
    (omega (arith, is.0, b.rises, rest.0), rest.1)

pub used_within : (counter end used : ℕ) (before behind : List SealedAhead) (a : SealedAhead)
    → IsRun counter (before ++ a ∷ behind) end → Uses a used → (counter ≤ used) × (used < end)
used_within counter end used before behind a is uses =
    let split = run_split counter end before behind a is in
    (omega (arith, split.0, uses.low), omega (arith, uses.high, run_rises a.next end behind split.1))

pub used_once : (counter end used : ℕ) (before between behind : List SealedAhead) (a b : SealedAhead)
    → IsRun counter (before ++ a ∷ (between ++ b ∷ behind)) end → Uses a used → Uses b used → ⊥
used_once counter end used before between behind a b is first second =
    let split = run_split counter end before (between ++ b ∷ behind) a is in
    omega (arith, first.high, second.low, (run_split a.next end between behind b split.1).0)
