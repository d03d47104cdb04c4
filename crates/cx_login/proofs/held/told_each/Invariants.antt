use Rattle.std.proofs.Common.{◌≡◌, [], drop}
use Rattle.cx_login.specs.Unlocking.{told_each}
use Rattle.cx_login.proofs.Unlocking.{ahead}
use Rattle.cx_login.proofs.held.told_each.Given as goal

abbrev pub invariant-loop-part : goal.invariant-loop-part
invariant-loop-part l = ahead l.seals l.held (told_each l.key (drop l.part-index l.parts)) ≡ ahead l.fn.seals [] (told_each l.key l.parts)
