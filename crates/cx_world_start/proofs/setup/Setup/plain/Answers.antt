use Rattle.std.proofs.Common.{refl}
use Rattle.cx_world_start.proofs.setup.Setup.plain.Goals as goal

pub invariant_of-result : goal.invariant_of-result
invariant_of-result c = record {
  life_within = refl;
  auth_life_within = refl;
  ring = rw c.new.ensures.items refl;
  placed = λ name. rw c.new.ensures.items (c.new-3.ensures name);
}
