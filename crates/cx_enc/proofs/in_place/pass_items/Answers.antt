-- The loop reads so many values, one behind the other.
use Rattle.std.proofs.Common.{[], refl}
use Rattle.std.proofs.lemmas.Result.{err_from_is_err_and}
use Rattle.cx_enc.specs.Forms.{times_at}
use Rattle.cx_enc.specs.Reading.{spot}
use Rattle.cx_enc.proofs.Loops.{begins, passes_on, passed_ends, passed_all}
use Rattle.cx_enc.proofs.in_place.pass_items.Goals as goal

pub loop-init : goal.loop-init
loop-init g c = ([], begins g.T.Encoded.layout.form.at c.args.count (spot c.args.cut.now))

pub returns-in_err-_passed : goal.returns-in_err-_passed
returns-in_err-_passed g c =
    let p = err_from_is_err_and c.from_residual.result c.from_residual.ensures.1 in
    rw (p.1, p.2)
    (passed_ends g.T.Encoded.layout.form.at c.args.count c.loop.counter (spot c.loop.at) c.in_err-_passed.field-0.0 (times_at g.T.Encoded.layout.form.at c.args.count (spot c.args.cut.now)) c.loop-test.true c.in_err-_passed.ensures c.loop.invariant, refl)

pub loop-preserved : goal.loop-preserved
loop-preserved g c =
    passes_on g.T.Encoded.layout.form.at c.args.count c.loop.counter (spot c.loop.at) c.in_ok-_passed._passed (spot c.read_in_place.new.cut) (times_at g.T.Encoded.layout.form.at c.args.count (spot c.args.cut.now)) c.loop-test.true c.in_ok-_passed.ensures c.loop.invariant

pub returns : goal.returns
returns g c =
    passed_all g.T.Encoded.layout.form.at c.args.count c.loop.counter (spot c.loop.at) (times_at g.T.Encoded.layout.form.at c.args.count (spot c.args.cut.now)) c.loop-test.false c.loop.invariant
