use Rattle.std.proofs.Common.{◌≡◌, subst}
use Rattle.std.proofs.lemmas.Result.{on_ok_weaker}
use Rattle.cx_desk.specs.Handlers.{Handlers}
use Rattle.cx_desk.specs.Held.{handlers_of}
use Rattle.cx_world_start.specs.cx_rules.specs.Inputs.{input_of}
use Rattle.cx_world_start.specs.cx_run.specs.Deliveries.{gives}
use Rattle.cx_world_start.specs.cx_run.specs.Worlds.{World, carried}
use Rattle.cx_steps.specs.declared.effects.Effects.{Effects}
use Rattle.cx_world.specs.Carried.{Carries, Makes}
use Rattle.cx_world.proofs.world.World.tell.Goals as goal

pub returns : goal.returns
returns g c =
    on_ok_weaker c.carry.result
    (λ (makes : (handlers : Handlers) → Makes handlers c.give.new.self c.carry.new.self (λ w. carried w c.args.who.now c.in_ok-made.made.out)) b seen w k.
    let input = input_of c.args.event in
    let g = c.in_ok-made.ensures b seen w k in
    let P : Effects → Type 0 = λ out. Carries b seen c.carry.new.self (carried (gives w c.args.who.now input).world c.args.who.now out) in
    subst P g.out (makes (handlers_of c.args.desk.now) b seen (gives w c.args.who.now input).world g.world))
    c.carry.ensures.carried
