use Rattle.std.proofs.Common.{◌≡◌, drop, map}
use Rattle.std.specs.List.{list_any}
use Rattle.cx_audit.specs.ruled.Tests.{is_issued_as}
use Rattle.cx_audit.proofs.tickets.was_issued.Given as goal

abbrev pub invariant-loop-entry : goal.invariant-loop-entry
invariant-loop-entry l = list_any (is_issued_as l.daemon l.generation l.blob) (map (λ e. e.now) (drop l.entry-index l.entries)) ≡ list_any (is_issued_as l.daemon l.generation l.blob) (map (λ e. e.now) l.entries)
