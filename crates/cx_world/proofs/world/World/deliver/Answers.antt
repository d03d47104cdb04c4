use Rattle.std.proofs.Common.{ℕ, List, Some, sym, ap, ◌∙◌}
use Rattle.cx_world_start.specs.cx_run.specs.Worlds.{World as RunWorld}
use Rattle.cx_world.proofs.Making.{ok_makes}
use Rattle.cx_words.specs.declared.choices.Side.{Side}
use Rattle.cx_world_start.specs.cx_run.specs.Deliveries.{delivers}
use Rattle.cx_world_start.specs.cx_run.specs.Wires.{wire_of}
use Rattle.cx_world.specs.Arriving.{arrives_there, delivers_gone}
use Rattle.cx_world.proofs.Arrivals.{arrived, none_arrived, seen_at}
use Rattle.cx_world.proofs.world.World.deliver.Goals as goal

pub returns-in-Some : goal.returns-in-Some
returns-in-Some g c = ok_makes c.arrive_there.result (record c.args.self.now { wires = c.take.new.self }) c.arrive_there.new.self
    (λ (w : RunWorld). arrives_there w c.in_ok-far.far c.bytes-in-Some.result.now) c.arrive_there.ensures
    c.args.self.now (λ (w : RunWorld). delivers w c.args.number c.args.side c.args.n)
    (λ b seen w h m. arrived b seen c.args.self.now c.arrive_there.new.self w c.args.number c.args.side c.args.n c.take.new.self c.in_ok-far.far c.bytes-in-Some.result.now h
    (ap (λ (x : List ℕ). Some x) c.bytes-in-Some.ensures ∙ sym c.in-Some.is ∙ c.in_ok-bytes.ensures.value)
    (c.in_ok-far.ensures ∙ ap (λ (s : Side). seen_at s (wire_of c.args.number c.args.self.now.wires)) c.other.ensures)
    c.in_ok-bytes.ensures.ok
    m)

pub returns : goal.returns
returns g c = ok_makes c.deliver_gone.result (record c.args.self.now { wires = c.take.new.self }) c.deliver_gone.new.self
    (λ (w : RunWorld). delivers_gone w c.args.side (wire_of c.args.number w.wires)) c.deliver_gone.ensures
    c.args.self.now (λ (w : RunWorld). delivers w c.args.number c.args.side c.args.n)
    (λ b seen w h m. none_arrived b seen c.args.self.now c.deliver_gone.new.self w c.args.number c.args.side c.args.n c.take.new.self h
    (sym c.in-None.is ∙ c.in_ok-bytes.ensures.value)
    c.in_ok-bytes.ensures.ok
    m)
