-- A value is spelled by all of the bytes exactly where it is read and nothing is left.
use Rattle.std.proofs.Common.{◌≡◌, ◌≢◌, Ok, [], length, ap, rules, arith}
use Rattle.std.proofs.lemmas.List.{nil_from_length}
use Rattle.std.proofs.lemmas.Result.{err_from_is_err_and}
use Rattle.cx_enc.specs.Reading.{spot}
use Rattle.cx_enc.specs.Whole.{start}
use Rattle.cx_enc.proofs.Wholes.{spelled, nothing_left, wants_memory}
use Rattle.cx_enc.proofs.encoded.read_whole.Goals as goal

pub returns-in_err-value-clause-only : goal.returns-in_err-value-clause-only
returns-in_err-value-clause-only g c = λ x spells.
    let p = err_from_is_err_and c.from_residual.result c.from_residual.ensures.1 in
    rw (p.1, p.2) (wants_memory g.T.Encoded.layout.form g.T.Encoded.layout.lawful c.args.bytes.now x c.in_err-value.field-0.0 (spot c.new-cut.result) (spot c.read.new.cut) spells c.new-cut.ensures c.in_err-value.ensures)

pub returns-then-left-gt0-clause-only : goal.returns-then-left-gt0-clause-only
returns-then-left-gt0-clause-only g c = λ x spells.
    let read : g.T.Encoded.layout.form.at (start c.args.bytes.now) ≡ Ok (c.in_ok-value.value, spot c.read.new.cut) = search rules in
    let none = nothing_left g.T.Encoded.layout.form g.T.Encoded.layout.lawful c.args.bytes.now x c.in_ok-value.value (spot c.read.new.cut) spells read in
    let empty : length (spot c.read.new.cut).left ≡ 0 = ap length none.1 in
    absurd (omega (arith, empty))

pub returns-then-left-gt0-clause-refused : goal.returns-then-left-gt0-clause-refused
returns-then-left-gt0-clause-refused g c =
    let read : g.T.Encoded.layout.form.at (start c.args.bytes.now) ≡ Ok (c.in_ok-value.value, spot c.read.new.cut) = search rules in
    let some : (spot c.read.new.cut).left ≢ [] = λ none. (let empty : length (spot c.read.new.cut).left ≡ 0 = ap length none in omega (arith, empty)) in
    (c.in_ok-value.value, spot c.read.new.cut, read, some, c.place.ensures)

pub returns-clause-found : goal.returns-clause-found
returns-clause-found g c =
    let none : (spot c.read.new.cut).left ≡ [] = nil_from_length (spot c.read.new.cut).left (omega arith) in
    let read : g.T.Encoded.layout.form.at (start c.args.bytes.now) ≡ Ok (c.in_ok-value.value, spot c.read.new.cut) = search rules in
    spelled g.T.Encoded.layout.form g.T.Encoded.layout.lawful c.args.bytes.now c.in_ok-value.value (spot c.read.new.cut) (λ i. omega (arith, c.type_inv.bytes i)) read none

pub returns-clause-only : goal.returns-clause-only
returns-clause-only g c = λ x spells.
    let read : g.T.Encoded.layout.form.at (start c.args.bytes.now) ≡ Ok (c.in_ok-value.value, spot c.read.new.cut) = search rules in
    (nothing_left g.T.Encoded.layout.form g.T.Encoded.layout.lawful c.args.bytes.now x c.in_ok-value.value (spot c.read.new.cut) spells read).0
