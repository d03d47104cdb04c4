use Rattle.std.proofs.Common.{List, sym, ap, ◌∙◌}
use Rattle.std.proofs.lemmas.Result.{on_ok_weaker}
use Rattle.cx_world_start.specs.cx_run.specs.Wires.{Wire, wire_of}
use Rattle.cx_world.specs.Events.{far_seen}
use Rattle.cx_world.proofs.Carrying.{stays_carried, vanished_carried}
use Rattle.cx_world.proofs.world.World.vanish_at.Goals as goal

pub returns-in-Some : goal.returns-in-Some
returns-in-Some g c =
    on_ok_weaker c.tell_gone.result
    (λ makes b seen w k.
    vanished_carried b seen c.args.self.now w k c.tell_gone.new.self c.args.who.now c.args.number c.in-Some.far c.end.new.self
    (sym c.in-Some.is ∙ c.in_ok-far.ensures) c.end.ensures makes)
    c.tell_gone.ensures

pub returns-in-None : goal.returns-in-None
returns-in-None g c =
    λ b seen w k.
    stays_carried b seen c.args.self.now w k c.args.who.now (wire_of c.args.number w.wires)
    (sym c.in-None.is ∙ c.in_ok-far.ensures ∙ ap (λ (xs : List Wire). far_seen c.args.who.now (wire_of c.args.number xs)) k.wires)
