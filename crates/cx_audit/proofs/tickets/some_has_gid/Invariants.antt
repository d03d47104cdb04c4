use Rattle.std.proofs.Common.{◌≡◌, drop, map}
use Rattle.std.specs.List.{list_any}
use Rattle.cx_audit.specs.ruled.Tests.{has_gid}
use Rattle.cx_audit.proofs.tickets.some_has_gid.Given as goal

abbrev pub invariant-loop-entry : goal.invariant-loop-entry
invariant-loop-entry l = list_any (has_gid l.ticket) (map (λ e. e.now) (drop l.entry-index l.entries)) ≡ list_any (has_gid l.ticket) (map (λ e. e.now) l.entries)
