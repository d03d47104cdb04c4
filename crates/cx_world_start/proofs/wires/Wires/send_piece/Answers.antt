use Rattle.std.proofs.Common.{◌≡◌, ◌+◌, List, ap, sym, ◌∙◌, arith}
use Rattle.std.proofs.lemmas.Result.{on_ok_weaker}
use Rattle.cx_words.specs.declared.choices.Side.{Side}
use Rattle.cx_run.specs.Wires.{Wire, sent_from, with_wire}
use Rattle.cx_world_start.proofs.links.Calming.{table_changed}
use Rattle.cx_world_start.proofs.links.Numbers.{Stands, stands}
use Rattle.cx_world_start.proofs.wires.Wires.send_piece.Goals as goal

pub invariant_of-self-in-Some : goal.invariant_of-self-in-Some
invariant_of-self-in-Some c =
    let items : List Wire = c.self.inside.held.items in
    let old : Wire = c.index_mut-wire.result.now in
    let new : Wire = c.send.new.self in
    let within = rw c.as_slice.ensures.value at c.in-Some.ensures.some.0 in
    let n : c.args.piece.link ≡ c.in-Some.place + 1 = omega (arith, c.in-Some.ensures.some.1) in
    let at : Stands items c.args.piece.link c.in-Some.place old new = stands items c.args.piece.link c.in-Some.place old new c.self.invariant.numbered within n c.index_mut-wire.ensures.value c.send.ensures.number in
    table_changed items c.args.piece.link c.in-Some.place old new at c.self.inside.busy c.add.new.self c.from-in-Some.result c.from-in-Some.ensures c.self.invariant c.in_ok-add-in-Some.ensures.added c.in_ok-add-in-Some.ensures.kept

pub returns-in_ok-add-in-Some-clause-ok : goal.returns-in_ok-add-in-Some-clause-ok
returns-in_ok-add-in-Some-clause-ok c =
    let items : List Wire = c.self.inside.held.items in
    let old : Wire = c.index_mut-wire.result.now in
    let new : Wire = c.send.new.self in
    let within = rw c.as_slice.ensures.value at c.in-Some.ensures.some.0 in
    let n : c.args.piece.link ≡ c.in-Some.place + 1 = omega (arith, c.in-Some.ensures.some.1) in
    let at : Stands items c.args.piece.link c.in-Some.place old new = stands items c.args.piece.link c.in-Some.place old new c.self.invariant.numbered within n c.index_mut-wire.ensures.value c.send.ensures.number in
    rw (← c.self.view_is, at.found) (on_ok_weaker c.send.result
    (λ (e : new ≡ sent_from old c.side_of-side.result c.args.piece.bytes). sym at.changed ∙ ap (λ (w : Wire). with_wire items w) (e ∙ ap (λ (s : Side). sent_from old s c.args.piece.bytes) c.side_of-side.ensures))
    c.send.ensures.ok)
