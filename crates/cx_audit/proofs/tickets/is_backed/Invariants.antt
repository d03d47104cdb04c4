use Rattle.std.proofs.Common.{◌≡◌, drop, map}
use Rattle.std.specs.List.{list_any}
use Rattle.cx_audit.specs.ruled.Tests.{backs}
use Rattle.cx_audit.proofs.tickets.is_backed.Given as goal

abbrev pub invariant-loop-entry : goal.invariant-loop-entry
invariant-loop-entry l = list_any (backs l.session) (map (λ e. e.now) (drop l.entry-index l.entries)) ≡ list_any (backs l.session) (map (λ e. e.now) l.entries)
