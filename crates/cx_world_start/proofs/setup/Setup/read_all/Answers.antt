use Rattle.std.proofs.Common.{refl, arith}
use Rattle.cx_schedule.proofs.Whole.{few_in_all}
use Rattle.cx_world_start.specs.head.Beginning.{unhandled}
use Rattle.cx_world_start.proofs.head.Following.{schedule_follows}
use Rattle.cx_world_start.proofs.setup.Setup.read_all.Goals as goal

pub loop-line-init : goal.loop-line-init
loop-line-init c =
    let bytes = c.requires.0 in
    let few = few_in_all bytes c.args.lines.now c.requires.1 c.requires.2 in
    record {
      read = rw c.plain-setup.ensures refl;
      follow = rw c.plain-setup.ensures (schedule_follows unhandled bytes c.args.lines.now c.requires.2);
      few = rw c.plain-setup.ensures (omega (arith, few));
    }
