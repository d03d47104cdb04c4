use Rattle.std.proofs.Common.{ℕ, List, Some, ap, ◌∙◌}
use Rattle.cx_world_start.specs.cx_run.specs.Worlds.{World as RunWorld}
use Rattle.cx_world.proofs.Making.{ok_makes}
use Rattle.cx_world_start.specs.cx_run.specs.Schedules.{arrives_again, ever_sent, injects}
use Rattle.cx_world_start.specs.cx_run.specs.Wires.{wire_of}
use Rattle.cx_world.proofs.Arrivals.{came_again}
use Rattle.cx_world.proofs.world.World.repeat.Goals as goal

pub returns : goal.returns
returns g c = ok_makes c.inject.result c.args.self.now c.inject.new.self
    (λ (w : RunWorld). injects w c.args.side c.bytes.result.now (wire_of c.args.to w.wires)) c.inject.ensures
    c.args.self.now
    (λ (w : RunWorld). arrives_again w c.args.side (ever_sent c.args.place c.args.side (wire_of c.args.number w.wires)) (wire_of c.args.to w.wires))
    (λ b seen w h m. came_again b seen c.args.self.now c.inject.new.self w c.args.number c.args.side c.args.place c.args.to c.bytes.result.now h
    (ap (λ (x : List ℕ). Some x) (c.bytes.ensures ∙ c.in_ok-copied.ensures) ∙ c.in-Some.ensures)
    (m w h))
