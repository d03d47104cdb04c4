use Rattle.cx_world_start.specs.cx_run.specs.Worlds.{World as RunWorld}
use Rattle.cx_world.proofs.Making.{ok_makes}
use Rattle.cx_world_start.specs.cx_run.specs.Schedules.{cuts}
use Rattle.cx_world_start.specs.cx_run.specs.Wires.{wire_of}
use Rattle.cx_world.specs.Arriving.{tells_there}
use Rattle.cx_world.proofs.Arrivals.{was_cut}
use Rattle.cx_world.proofs.world.World.cut.Goals as goal

pub returns : goal.returns
returns g c = ok_makes c.tell_there-2.result c.tell_there.new.self c.tell_there-2.new.self
    (λ (w : RunWorld). tells_there w c.in_ok-acceptor.acceptor) c.tell_there-2.ensures
    c.args.self.now (λ (w : RunWorld). cuts w (wire_of c.args.number w.wires))
    (λ b seen w h m. was_cut b seen c.args.self.now c.tell_there-2.new.self w c.args.number c.end.new.self c.in_ok-connector.connector c.in_ok-acceptor.acceptor h
    c.in_ok-connector.ensures c.in_ok-acceptor.ensures c.end.ensures
    (λ x k. m (tells_there x c.in_ok-connector.connector) (c.in_ok-tell_there.ensures b seen x k)))
