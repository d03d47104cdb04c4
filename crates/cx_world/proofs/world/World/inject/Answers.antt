use Rattle.std.proofs.Common.{ap, ◌∙◌}
use Rattle.cx_world_start.specs.cx_run.specs.Worlds.{World as RunWorld}
use Rattle.cx_world.proofs.Making.{ok_makes}
use Rattle.cx_words.specs.declared.choices.Side.{Side}
use Rattle.cx_world_start.specs.cx_run.specs.Schedules.{injects}
use Rattle.cx_world_start.specs.cx_run.specs.Wires.{wire_of}
use Rattle.cx_world.specs.Arriving.{arrives_there}
use Rattle.cx_world.proofs.Arrivals.{injected, seen_at}
use Rattle.cx_world.proofs.world.World.inject.Goals as goal

pub returns : goal.returns
returns g c = ok_makes c.arrive_there.result c.args.self.now c.arrive_there.new.self
    (λ (w : RunWorld). arrives_there w c.in_ok-far.far c.args.bytes.now) c.arrive_there.ensures
    c.args.self.now (λ (w : RunWorld). injects w c.args.side c.args.bytes.now (wire_of c.args.number w.wires))
    (λ b seen w h m. injected b seen c.args.self.now c.arrive_there.new.self w c.args.number c.args.side c.in_ok-far.far c.args.bytes.now h
    (c.in_ok-far.ensures ∙ ap (λ (s : Side). seen_at s (wire_of c.args.number c.args.self.now.wires)) c.other.ensures)
    m)
