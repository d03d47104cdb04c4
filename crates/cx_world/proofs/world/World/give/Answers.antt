use Rattle.std.proofs.Common.{sym, subst}
use Rattle.cx_world_start.specs.cx_rules.specs.Inputs.{input_of}
use Rattle.cx_world_start.specs.cx_run.specs.Deliveries.{gives}
use Rattle.cx_world.specs.declared.made.Made.{Made}
use Rattle.cx_world.specs.Carried.{IsGivenTo}
use Rattle.cx_world.proofs.Giving.{given_to}
use Rattle.cx_world.proofs.world.World.give.Goals as goal

pub returns : goal.returns
returns g c =
    λ b seen w k.
    let input = input_of c.args.event in
    let P : Made → Type 0 = λ made. IsGivenTo b seen c.note.new.self made (gives w c.args.who.now input) in
    subst P (sym c.in_ok-note.ensures.left)
    (given_to b seen c.args.self.now c.note.new.self _ c.args.who.now c.in_ok-made.made c.in_ok-note.ensures.noted w k input (c.in_ok-made.ensures w k.nodes k.left))
