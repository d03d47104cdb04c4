-- The part of a value that is spelled by all of the bytes is read exactly where that value is there and nothing is left.
use Rattle.std.proofs.Common.{sym, ap, ◌∙◌, arith}
use Rattle.std.proofs.lemmas.Result.{err_from_is_err_and}
use Rattle.cx_enc.specs.Reading.{spot}
use Rattle.cx_enc.specs.Whole.{start}
use Rattle.cx_enc.proofs.Wholes.{spelled_whole, nothing_left, none_left_over, left_over, whole_of, part_refused, part_wants_memory}
use Rattle.cx_enc.proofs.parts.read_whole_part.Goals as goal

pub returns-in_err-value-clause-only : goal.returns-in_err-value-clause-only
returns-in_err-value-clause-only g c = λ v spells.
    let p = err_from_is_err_and c.from_residual.result c.from_residual.ensures.1 in
    rw (p.1, p.2) (part_wants_memory g.T.ReadsPart.whole.form g.T.ReadsPart.whole.lawful g.T.ReadsPart.kept c.args.bytes.now v c.in_err-value.field-0.0 (spot c.new-cut.result) (spot c.read_part.new.cut) spells c.new-cut.ensures c.in_err-value.ensures)

pub returns-in_err-value-clause-refused : goal.returns-in_err-value-clause-refused
returns-in_err-value-clause-refused g c =
    let p = err_from_is_err_and c.from_residual.result c.from_residual.ensures.1 in
    rw (p.1, p.2) (part_refused g.T.ReadsPart.whole.form g.T.ReadsPart.kept c.args.bytes.now c.in_err-value.field-0.0 (spot c.new-cut.result) (spot c.read_part.new.cut) c.new-cut.ensures c.in_err-value.ensures)

pub returns-then-left-gt0-clause-only : goal.returns-then-left-gt0-clause-only
returns-then-left-gt0-clause-only g c = λ v spells.
    let w = whole_of g.T.ReadsPart.whole.form g.T.ReadsPart.kept (start c.args.bytes.now) c.in_ok-value.value (spot c.read_part.new.cut) (rw c.new-cut.ensures at c.in_ok-value.ensures) in
    absurd (none_left_over g.T.ReadsPart.whole.form g.T.ReadsPart.whole.lawful c.args.bytes.now v w.0 (spot c.read_part.new.cut) spells w.1 (omega arith))

pub returns-then-left-gt0-clause-refused : goal.returns-then-left-gt0-clause-refused
returns-then-left-gt0-clause-refused g c =
    let w = whole_of g.T.ReadsPart.whole.form g.T.ReadsPart.kept (start c.args.bytes.now) c.in_ok-value.value (spot c.read_part.new.cut) (rw c.new-cut.ensures at c.in_ok-value.ensures) in
    left_over g.T.ReadsPart.whole.form c.args.bytes.now w.0 (spot c.read_part.new.cut) c.place.result w.1 (omega arith) c.place.ensures

pub returns-clause-found : goal.returns-clause-found
returns-clause-found g c =
    let w = whole_of g.T.ReadsPart.whole.form g.T.ReadsPart.kept (start c.args.bytes.now) c.in_ok-value.value (spot c.read_part.new.cut) (rw c.new-cut.ensures at c.in_ok-value.ensures) in
    (w.0, spelled_whole g.T.ReadsPart.whole.form g.T.ReadsPart.whole.lawful c.args.bytes.now w.0 (spot c.read_part.new.cut) (λ i. omega (arith, c.type_inv.bytes i)) w.1 (omega arith), w.2)

pub returns-clause-only : goal.returns-clause-only
returns-clause-only g c = λ v spells.
    let w = whole_of g.T.ReadsPart.whole.form g.T.ReadsPart.kept (start c.args.bytes.now) c.in_ok-value.value (spot c.read_part.new.cut) (rw c.new-cut.ensures at c.in_ok-value.ensures) in
    let same = nothing_left g.T.ReadsPart.whole.form g.T.ReadsPart.whole.lawful c.args.bytes.now v w.0 (spot c.read_part.new.cut) spells w.1 in
    sym w.2 ∙ ap g.T.ReadsPart.kept same.0
