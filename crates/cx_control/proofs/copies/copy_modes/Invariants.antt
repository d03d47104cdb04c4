use Rattle.std.proofs.Common.{◌≡◌, take}
use Rattle.cx_control.proofs.copies.copy_modes.Given as goal

abbrev pub invariant-loop-mode : goal.invariant-loop-mode
invariant-loop-mode l = l.copied ≡ take l.mode-index l.modes
