use Rattle.std.specs.Prelude.{filter}
use Rattle.std.proofs.lemmas.List.{take_all}
use Rattle.cx_world_start.specs.cx_run.specs.Deliveries.{vanish}
use Rattle.std.proofs.Common.{◌≡◌, ◌<◌, ◌≤◌, List, length, subst, ap, ◌∙◌, sym, arith}
use Rattle.cx_world_start.specs.cx_run.specs.Wires.{Wire, has_end}
use Rattle.cx_world_start.specs.cx_run.specs.Worlds.{World}
use Rattle.cx_world_start.specs.links.Tables.{AreNumbered}
use Rattle.cx_world.specs.Carried.{Carries}
use Rattle.cx_world.proofs.Vanishing.{vanish_more}
use Rattle.cx_world.proofs.world.World.vanish.Goals as goal

pub links-preserved : goal.links-preserved
links-preserved g c =
    λ b seen w k.
    let P : List Wire → Type 0 = AreNumbered 1 in
    let count : length c.args.self.now.wires ≡ length w.wires = ap (λ (ws : List Wire). length ws) k.wires in
    let within : c.links.place < length w.wires = omega (arith, c.len-place-end.ensures.value) in
    let Q : World → Type 0 = Carries b seen c.vanish_at.new.self in
    subst Q (vanish_more w c.args.who.now c.links.place (subst P k.wires c.len-place-end.ensures.numbered) within)
    (c.in_ok-vanish_at.ensures b seen _ (c.links.invariant b seen w k))

pub returns : goal.returns
returns g c =
    λ b seen w k.
    let count : length c.args.self.now.wires ≡ length w.wires = ap (λ (ws : List Wire). length ws) k.wires in
    let all : length w.wires ≤ c.links.place = omega (arith, c.len-place-end.ensures.value) in
    let P : List Wire → Type 0 = λ ws. Carries b seen c.links.self (vanish c.args.who.now w (filter (has_end c.args.who.now) ws)) in
    subst P (take_all c.links.place w.wires all) (c.links.invariant b seen w k)
