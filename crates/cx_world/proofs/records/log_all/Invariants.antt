use Rattle.std.proofs.Common.{List, ◌++◌, take}
use Rattle.cx_base.specs.Names.{Name}
use Rattle.cx_premises.specs.Ledgers.{StandsFor}
use Rattle.cx_steps.specs.declared.seals.Logged.{Logged}
use Rattle.cx_world.proofs.records.log_all.Given as goal

abbrev pub invariant-loop-entry : goal.invariant-loop-entry
invariant-loop-entry l = (leaked : List Name) (log : List Logged) → StandsFor l.initial.ledger leaked log → StandsFor l.ledger leaked (log ++ take l.entry-index l.entries)
