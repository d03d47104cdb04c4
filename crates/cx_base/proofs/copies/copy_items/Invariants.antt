use Rattle.std.proofs.Common.{◌≡◌, take}
use Rattle.cx_base.proofs.copies.copy_items.Given as goal

abbrev pub invariant-loop-item : goal.invariant-loop-item
invariant-loop-item g l = l.copied ≡ take l.item-index l.items
