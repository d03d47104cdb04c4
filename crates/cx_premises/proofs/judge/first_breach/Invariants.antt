use Rattle.std.proofs.Common.{take}
use Rattle.cx_premises.specs.Ledgers.{StandsFor}
use Rattle.cx_premises.proofs.judge.first_breach.Given as goal

abbrev pub invariant-loop-at : goal.invariant-loop-at
invariant-loop-at l = StandsFor l.ledger l.leaked (take l.at-index l.log)
