use Rattle.std.proofs.Common.{take}
use Rattle.cx_audit.specs.ruled.Tests.{AreLeaks}
use Rattle.cx_audit.proofs.known.leaked.Given as goal

abbrev pub invariant-loop-place : goal.invariant-loop-place
invariant-loop-place l = AreLeaks (take l.place l.entries) l.leaks
