use Rattle.std.proofs.Common.{◌≡◌, length, Some, refl, arith}
use Rattle.cx_world.proofs.Rounds.{IsSettling, all_gone, asked, came_to_rest, unsettled, went_on}
use Rattle.cx_world.proofs.world.World.settle.Goals as goal

pub loop-init : goal.loop-init
loop-init g c = λ b w h. unsettled b w c.args.self.now h

pub loop-preserved : goal.loop-preserved
loop-preserved g c = λ b w h.
    let s : IsSettling b c.loop.counter w c.loop.self = c.loop.invariant b w h in
    went_on b c.loop.counter w c.loop.self c.round.new.self s
    (c.in_ok-round.ensures b (Some (length s.world.past)) s.world (asked b s.world c.loop.self s.carried)) c.if-not-self.false

pub returns-then-not-self : goal.returns-then-not-self
returns-then-not-self g c = λ b w h.
    let s : IsSettling b c.loop.counter w c.loop.self = c.loop.invariant b w h in
    came_to_rest b c.loop.counter 64 w c.loop.self c.round.new.self s refl c.loop-test.true
    (c.in_ok-round.ensures b (Some (length s.world.past)) s.world (asked b s.world c.loop.self s.carried)) c.if-not-self.true

pub returns : goal.returns
returns g c =
    let all : c.loop.counter ≡ 64 = omega arith in
    λ b w h. all_gone b c.loop.counter 64 w c.loop.self (c.loop.invariant b w h) refl all
