use Rattle.std.proofs.Common.{◌≡◌, ◌++◌, drop}
use Rattle.std.specs.Prelude.{map}
use Rattle.cx_journal.specs.declared.entries.Entry.TheVariants as entry
use Rattle.cx_run.specs.Opening.{leaks_entered}
use Rattle.cx_world_start.proofs.setup.Setup.leaks_entered.Given as goal

abbrev pub invariant-loop-leak : goal.invariant-loop-leak
invariant-loop-leak l = l.journal ++ map (λ leak. entry.Leaked leak.client) (drop l.leak-index l.leak-items) ≡ map (λ e. e.entry) (leaks_entered l.self)
