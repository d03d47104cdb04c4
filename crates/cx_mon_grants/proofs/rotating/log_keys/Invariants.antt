use Rattle.std.proofs.Common.{◌≡◌, ◌++◌, map, take}
use Rattle.cx_steps.specs.declared.seals.DrawMark.TheVariants.{Rotation}
use Rattle.cx_steps.specs.declared.seals.SealEntry.TheVariants.{Drawn}
use Rattle.cx_mon_grants.proofs.rotating.log_keys.Given as goal

abbrev pub invariant-loop-key : goal.invariant-loop-key
invariant-loop-key l = l.seals ≡ l.initial.seals ++ map (λ key. Drawn (Rotation key)) (take l.key-index l.keys)
