-- The loop reads so many values, one behind the other.
use Rattle.std.proofs.Common.{refl}
use Rattle.std.proofs.lemmas.Result.{err_from_is_err_and}
use Rattle.cx_enc.specs.Forms.{times_at}
use Rattle.cx_enc.specs.Reading.{spot}
use Rattle.cx_enc.proofs.Loops.{goes_on, is_done, refuses}
use Rattle.cx_enc.proofs.lists.take_items.Goals as goal

pub returns-in_err-item : goal.returns-in_err-item
returns-in_err-item g c =
    let p = err_from_is_err_and c.from_residual.result c.from_residual.ensures.1 in
    rw (p.1, p.2)
    (refuses g.T.Encoded.layout.form.at c.loop.items c.args.count c.loop.counter (spot c.loop.at) (spot c.read.new.cut) (spot c.args.cut.now) c.in_err-item.field-0.0 (times_at g.T.Encoded.layout.form.at c.args.count (spot c.args.cut.now)) _ c.loop-test.true c.in_err-item.ensures c.loop.invariant refl)

pub loop-preserved : goal.loop-preserved
loop-preserved g c =
    rw c.in_ok-push.ensures.ok
    (goes_on g.T.Encoded.layout.form.at c.loop.items c.args.count c.loop.counter (spot c.loop.at) c.in_ok-item.item (spot c.read.new.cut) (times_at g.T.Encoded.layout.form.at c.args.count (spot c.args.cut.now)) c.loop-test.true c.in_ok-item.ensures c.loop.invariant)

pub returns : goal.returns
returns g c =
    is_done g.T.Encoded.layout.form.at c.loop.items c.args.count c.loop.counter (spot c.loop.at) (times_at g.T.Encoded.layout.form.at c.args.count (spot c.args.cut.now)) c.loop-test.false c.loop.invariant
