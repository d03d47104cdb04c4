use Rattle.std.proofs.Common.{◌≡◌, drop, map}
use Rattle.std.specs.List.{list_any}
use Rattle.cx_journal.specs.Leaks.{is_leak}
use Rattle.cx_audit.proofs.judging.some_leak.Given as goal

abbrev pub invariant-loop-entry : goal.invariant-loop-entry
invariant-loop-entry l = list_any (is_leak l.name) (map (λ e. e.now) (drop l.entry-index l.entries)) ≡ list_any (is_leak l.name) (map (λ e. e.now) l.entries)
