use Rattle.std.proofs.Common.{◌≡◌, ◌++◌, map}
use Rattle.cx_link.specs.Sending.{sealed_entry}
use Rattle.cx_link.proofs.secure.log_sealed.Given as goal

abbrev pub invariant-loop-content : goal.invariant-loop-content
invariant-loop-content l = l.seals ≡ l.initial.seals ++ map (sealed_entry l.key) l.yielded
