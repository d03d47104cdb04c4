use Rattle.std.proofs.Common.{◌≡◌, ℕ, true, false, List, length, None, sym, subst, ◌∙◌}
use Rattle.std.proofs.lemmas.Result.{on_ok_weaker}
use Rattle.cx_world_start.specs.cx_run.specs.Deliveries.{open_all}
use Rattle.cx_world_start.specs.cx_run.specs.Worlds.{World, carried, opened_wires}
use Rattle.cx_steps.specs.declared.effects.Effects.{Effects}
use Rattle.cx_steps.specs.declared.events.Peer.{Peer}
use Rattle.cx_world.specs.Carried.{Carries}
use Rattle.cx_world.proofs.Changing.{leaves}
use Rattle.cx_world.proofs.Quiet.{carried_count}
use Rattle.cx_world.proofs.world.World.follow.Goals as goal

pub returns-then-made : goal.returns-then-made
returns-then-made g c =
    λ b seen g k.
    let failed : g.failed ≡ true = sym k.failed ∙ c.if-made.true in
    let there : World = record g.world { left = None } in
    on_ok_weaker c.restart.result
    (λ makes. rw failed (makes b seen there (leaves b seen c.args.self.now g.world k.world None)))
    c.restart.ensures

pub returns : goal.returns
returns g c =
    λ b seen g k.
    let failed : g.failed ≡ false = sym k.failed ∙ c.if-made.false in
    let who = c.args.who.now in
    let out : Effects = c.args.made.now.out in
    let v : World = carried g.world who out in
    let new = c.open_all.new.self in
    let P : Effects → Type 0 = λ o. Carries b seen new (open_all (carried g.world who o) (opened_wires who (length g.world.wires) o.opens)) in
    let N : ℕ → Type 0 = λ n. Carries b seen new (open_all v (opened_wires who n out.opens)) in
    let O : List Peer → Type 0 = λ ps. Carries b seen new (open_all v (opened_wires who (length v.wires) ps)) in
    on_ok_weaker c.open_all.result
    (λ makes. rw failed (subst P k.out (subst N (carried_count g.world who out) (subst O (c.all.ensures ∙ c.carry.ensures.opens) (makes b seen v (c.in_ok-carry.ensures.carried _ b seen g.world k.world))))))
    c.open_all.ensures
