use Rattle.std.proofs.Common.{sym, ap, ◌∙◌}
use Rattle.cx_world_start.specs.cx_rules.specs.Inputs.{Turn}
use Rattle.cx_world_start.specs.cx_run.specs.Deliveries.{gives}
use Rattle.cx_steps.specs.declared.effects.Effects.{Effects}
use Rattle.cx_world.specs.Carried.{IsGivenTo}
use Rattle.cx_world.proofs.Turns.{IsTurning, begun, rested, turned}
use Rattle.cx_world.proofs.world.World.turn_all.Goals as goal

pub loop-init : goal.loop-init
loop-init g c = λ b seen w k. begun b seen c.args.who.now c.args.number w c.args.self.now k

pub loop-preserved : goal.loop-preserved
loop-preserved g c = λ b seen w k.
    let t : IsTurning b seen c.args.who.now c.args.number w c.loop.self = c.loop.invariant b seen w k in
    let given : IsGivenTo b seen c.give.new.self c.in_ok-made.made (gives t.world c.args.who.now (Turn c.args.number)) = c.in_ok-made.ensures b seen t.world t.carried in
    turned b seen c.args.who.now c.args.number w c.loop.self c.follow.new.self t
    (sym (ap (λ (o : Effects). o.turned) given.out) ∙ c.if-not-turned.false)
    (c.in_ok-follow.ensures b seen (gives t.world c.args.who.now (Turn c.args.number)) given)

pub returns-then-not-turned : goal.returns-then-not-turned
returns-then-not-turned g c = λ b seen w k.
    let t : IsTurning b seen c.args.who.now c.args.number w c.loop.self = c.loop.invariant b seen w k in
    let given : IsGivenTo b seen c.give.new.self c.in_ok-made.made (gives t.world c.args.who.now (Turn c.args.number)) = c.in_ok-made.ensures b seen t.world t.carried in
    rested b seen c.args.who.now c.args.number w c.loop.self c.follow.new.self t
    (sym (ap (λ (o : Effects). o.turned) given.out) ∙ c.if-not-turned.true)
    (c.in_ok-follow.ensures b seen (gives t.world c.args.who.now (Turn c.args.number)) given)
