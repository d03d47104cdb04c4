use Rattle.std.proofs.Common.{◌≡◌, take}
use Rattle.cx_premises.proofs.leaks.named.Given as goal

abbrev pub invariant-loop-name : goal.invariant-loop-name
invariant-loop-name l = l.names ≡ take l.name-index l.leaked
