-- The loop reads so many values, each behind what stands before it.
use Rattle.std.proofs.lemmas.Result.{err_from_is_err_and}
use Rattle.cx_enc.specs.Forms.{chain_at}
use Rattle.cx_enc.specs.Reading.{spot}
use Rattle.cx_enc.proofs.Loops.{chain_goes_on, chain_is_done, chain_refuses}
use Rattle.cx_enc.proofs.chains.take_chain.Goals as goal

pub returns-in_err-item : goal.returns-in_err-item
returns-in_err-item g c =
    let at = λ (b : g.row.S.Denot). (g.T.Chained.layout b).form.at in
    let p = err_from_is_err_and c.from_residual.result c.from_residual.ensures.1 in
    rw (p.1, p.2)
    (chain_refuses at g.T.Chained.next c.loop.items c.args.count c.loop.counter c.loop.before (spot c.loop.at) (spot c.read_behind.new.cut) (spot c.args.cut.now) c.in_err-item.field-0.0
    (chain_at at g.T.Chained.next c.args.count c.args.first (spot c.args.cut.now)) c.loop-test.true c.in_err-item.ensures c.loop.invariant)

pub loop-preserved : goal.loop-preserved
loop-preserved g c =
    let at = λ (b : g.row.S.Denot). (g.T.Chained.layout b).form.at in
    rw (c.in_ok-push.ensures.ok, c.next-before.ensures)
    (chain_goes_on at g.T.Chained.next c.loop.items c.args.count c.loop.counter c.loop.before (spot c.loop.at) c.in_ok-item.item (spot c.read_behind.new.cut)
    (chain_at at g.T.Chained.next c.args.count c.args.first (spot c.args.cut.now)) c.loop-test.true c.in_ok-item.ensures c.loop.invariant)

pub returns : goal.returns
returns g c =
    let at = λ (b : g.row.S.Denot). (g.T.Chained.layout b).form.at in
    chain_is_done at g.T.Chained.next c.loop.items c.args.count c.loop.counter c.loop.before (spot c.loop.at)
    (chain_at at g.T.Chained.next c.args.count c.args.first (spot c.args.cut.now)) c.loop-test.false c.loop.invariant
