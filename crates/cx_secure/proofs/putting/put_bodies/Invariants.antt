use Rattle.std.proofs.Common.{◌≡◌, ◌++◌, take}
use Rattle.cx_secure.specs.Plains.{bodies}
use Rattle.cx_secure.proofs.putting.put_bodies.Given as goal

abbrev pub invariant-loop-segment : goal.invariant-loop-segment
invariant-loop-segment l = l.into.items ≡ l.initial.into.items ++ bodies (take l.segment-index l.others)
