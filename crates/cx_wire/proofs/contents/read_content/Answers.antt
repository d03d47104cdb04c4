-- What the blob holds is read to its end, and then nothing is left.
use Rattle.std.proofs.Common.{arith}
use Rattle.std.proofs.lemmas.Result.{err_from_is_err_and}
use Rattle.cx_enc.specs.Reading.{spot}
use Rattle.cx_wire.proofs.Opening.{unopened, content_refused, content_over, body_over, body_ok}
use Rattle.cx_wire.proofs.contents.read_content.Goals as goal

pub returns-in_err-content : goal.returns-in_err-content
returns-in_err-content g c =
    let p = err_from_is_err_and c.from_residual.result c.from_residual.ensures.1 in
    rw (p.1, p.2) (unopened g.T.Encoded.layout c.args.bytes.now c.in_err-content.field-0.0 c.in_err-content.ensures)

pub returns-in_err-value : goal.returns-in_err-value
returns-in_err-value g c =
    let p = err_from_is_err_and c.from_residual-in_err-value.result c.from_residual-in_err-value.ensures.1 in
    rw (p.1, p.2) (content_refused g.T.Encoded.layout c.args.bytes.now (spot c.in_ok-content.content) (spot c.in_ok-content.behind) c.in_err-value.field-0.0 (spot c.read.new.cut)
    c.in_ok-content.ensures.0 c.in_ok-content.ensures.1 c.in_err-value.ensures)

pub returns-then-left-gt0 : goal.returns-then-left-gt0
returns-then-left-gt0 g c =
    rw c.place.ensures (content_over g.T.Encoded.layout c.args.bytes.now (spot c.in_ok-content.content) (spot c.in_ok-content.behind) c.in_ok-value.value (spot c.read.new.cut)
    c.in_ok-content.ensures.0 c.in_ok-content.ensures.1 c.in_ok-value.ensures (omega arith))

pub returns-then-left-gt0-2 : goal.returns-then-left-gt0-2
returns-then-left-gt0-2 g c =
    rw c.place-then-left-gt0-2.ensures (body_over g.T.Encoded.layout c.args.bytes.now (spot c.in_ok-content.content) (spot c.in_ok-content.behind) c.in_ok-value.value (spot c.read.new.cut)
    c.in_ok-content.ensures.0 c.in_ok-content.ensures.1 c.in_ok-value.ensures (omega arith) (omega arith))

pub returns : goal.returns
returns g c =
    body_ok g.T.Encoded.layout c.args.bytes.now (spot c.in_ok-content.content) (spot c.in_ok-content.behind) c.in_ok-value.value (spot c.read.new.cut) (λ i. omega (arith, c.type_inv.bytes i))
    c.in_ok-content.ensures.0 c.in_ok-content.ensures.1 c.in_ok-value.ensures (omega arith) (omega arith)
