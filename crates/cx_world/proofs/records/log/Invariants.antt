use Rattle.std.proofs.Common.{List, ◌++◌, map}
use Rattle.cx_base.specs.Names.{Name}
use Rattle.cx_premises.specs.Ledgers.{StandsFor}
use Rattle.cx_steps.specs.declared.seals.Logged.{Logged}
use Rattle.cx_steps.specs.declared.seals.SealEntry.{SealEntry}
use Rattle.cx_world.specs.Logs.{logged_at}
use Rattle.cx_world.proofs.records.log.Given as goal

abbrev pub invariant-loop-seal : goal.invariant-loop-seal
invariant-loop-seal l = (leaked : List Name) (log : List Logged) → StandsFor l.initial.ledger leaked log
    → StandsFor l.ledger leaked (log ++ map (λ (e : SealEntry). logged_at l.who l.line e) l.yielded)
