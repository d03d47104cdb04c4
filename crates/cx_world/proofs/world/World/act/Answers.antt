use Rattle.std.proofs.Common.{None}
use Rattle.cx_world_start.specs.cx_run.specs.Worlds.{World as RunWorld}
use Rattle.cx_world.proofs.Making.{ok_makes_alone, relined}
use Rattle.cx_world_start.specs.cx_run.specs.Schedules.{acts_on, after_line}
use Rattle.cx_world.proofs.world.World.act.Goals as goal

pub returns : goal.returns
returns g c = ok_makes_alone c.act_on.result (record c.args.self.now { line = c.args.line.now.number }) c.act_on.new.self
    (λ (w : RunWorld). acts_on w c.args.line.now.line) c.act_on.ensures
    c.args.self.now (λ (w : RunWorld). after_line w c.args.line.now)
    (λ b w h m. m (record w { line = c.args.line.now.number }) (relined b None c.args.self.now w c.args.line.now.number h))
