use Rattle.std.proofs.Common.{List, length, subst, sym}
use Rattle.std.proofs.lemmas.List.{take_all}
use Rattle.cx_world_start.specs.cx_run.specs.Deliveries.{open_all}
use Rattle.cx_world_start.specs.cx_run.specs.Worlds.{World, opened_wires}
use Rattle.cx_steps.specs.declared.events.Peer.{Peer}
use Rattle.cx_world.specs.Carried.{Carries}
use Rattle.cx_world.proofs.Quiet.{open_more}
use Rattle.cx_world.proofs.world.World.open_all.Goals as goal

pub loop-peer-preserved : goal.loop-peer-preserved
loop-peer-preserved g c =
    λ b seen w k.
    let Q : World → Type 0 = Carries b seen c.open.new.self in
    subst Q (sym (open_more w c.args.who.now c.args.peers.now c.loop-peer.peer-index c.peer-item.result c.loop-peer-test.true c.peer-item.is))
    (c.in_ok-open.ensures b seen _ (c.loop-peer.invariant b seen w k))

pub returns : goal.returns
returns g c =
    λ b seen w k.
    let peers : List Peer = c.args.peers.now in
    let P : List Peer → Type 0 = λ ps. Carries b seen c.loop-peer.self (open_all w (opened_wires c.args.who.now (length w.wires) ps)) in
    subst P (take_all c.loop-peer.peer-index peers c.loop-peer-test.false) (c.loop-peer.invariant b seen w k)
