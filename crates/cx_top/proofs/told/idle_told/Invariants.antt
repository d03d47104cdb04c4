use Rattle.std.proofs.Common.{◌≡◌, ◌++◌, drop, string_bytes}
use Rattle.cx_top.specs.Told.{idle_told}
use Rattle.cx_top.proofs.told.idle_told.Given as goal

abbrev pub invariant-loop-line : goal.invariant-loop-line
invariant-loop-line l = string_bytes l.told ++ idle_told (drop l.line-index l.idle) ≡ idle_told l.idle
