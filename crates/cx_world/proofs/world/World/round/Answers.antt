use Rattle.std.proofs.Common.{◌≡◌, ◌<◌, ◌≤◌, ◌∙◌, arith}
use Rattle.cx_world.proofs.Rounds.{drained_next, rested, went_round}
use Rattle.cx_world.proofs.world.World.round.Goals as goal

pub loop-init : goal.loop-init
loop-init g c = (λ b seen w h. h, omega arith, omega arith)

pub loop-preserved : goal.loop-preserved
loop-preserved g c =
    let behind : c.loop.counter ≤ c.loop.drained = c.loop.invariant.1 in
    let above : c.loop.drained < c.in-Some.number = c.in-Some.ensures.some.0 in (
      drained_next c.args.self.now c.loop.self c.drain_both.new.self c.loop.drained c.in-Some.number above c.in-Some.ensures.some.2 c.loop.invariant.0 c.in_ok-drain_both-in-Some.ensures,
      omega arith,
      c.in-Some.ensures.some.1,
    )

pub returns-in-None : goal.returns-in-None
returns-in-None g c = λ b seen w h.
    went_round b seen c.args.self.now c.loop.self w c.len-last.result h c.len-last.ensures.numbered c.len-last.ensures.value
    (rested c.args.self.now c.loop.self c.loop.drained c.len-last.result c.loop.invariant.2 c.in-None.ensures.none c.loop.invariant.0 b seen w h)

pub returns : goal.returns
returns g c =
    let behind : c.loop.counter ≤ c.loop.drained = c.loop.invariant.1 in
    let within : c.loop.drained ≤ c.len-last.result = c.loop.invariant.2 in
    let same : c.loop.drained ≡ c.len-last.result = omega arith in
    λ b seen w h. went_round b seen c.args.self.now c.loop.self w c.loop.drained h c.len-last.ensures.numbered
    (same ∙ c.len-last.ensures.value) (c.loop.invariant.0 b seen w h)
