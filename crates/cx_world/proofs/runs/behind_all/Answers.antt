use Rattle.cx_desk.specs.Held.{handlers_of}
use Rattle.cx_world.proofs.Idling.{found_of}
use Rattle.cx_world.proofs.Started.{behind}
use Rattle.cx_world.proofs.runs.behind_all.Goals as goal

pub returns : goal.returns
returns g c = record {
  world = behind (handlers_of c.args.desk.now) c.in_ok-setup.setup c.args.lines.now c.in_ok-world.world c.act_all.new.world (c.in_ok-setup.ensures (handlers_of c.args.desk.now)) (c.in_ok-world.ensures (handlers_of c.args.desk.now)) c.in_ok-idle.ensures.acts;
  idle = found_of (handlers_of c.args.desk.now) c.in_ok-setup.setup c.args.lines.now c.in_ok-world.world c.in_ok-idle.idle (c.in_ok-setup.ensures (handlers_of c.args.desk.now)) (c.in_ok-world.ensures (handlers_of c.args.desk.now)) c.in_ok-idle.ensures.idle;
}
