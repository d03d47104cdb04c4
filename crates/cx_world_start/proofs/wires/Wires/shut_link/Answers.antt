use Rattle.std.proofs.Common.{◌≡◌, ◌+◌, List, ap, sym, ◌∙◌, arith}
use Rattle.cx_words.specs.declared.choices.Side.{Side}
use Rattle.cx_run.specs.Wires.{Wire, gone_at, with_wire}
use Rattle.cx_world_start.proofs.links.Calming.{table_changed}
use Rattle.cx_world_start.proofs.links.Numbers.{Stands, stands, gone_number}
use Rattle.cx_world_start.proofs.wires.Wires.shut_link.Goals as goal

pub invariant_of-self-in-Some : goal.invariant_of-self-in-Some
invariant_of-self-in-Some c =
    let items : List Wire = c.self.inside.held.items in
    let old : Wire = c.index_mut-wire.result.now in
    let new : Wire = c.go.new.self in
    let within = rw c.as_slice.ensures.value at c.in-Some.ensures.some.0 in
    let n : c.args.number ≡ c.in-Some.place + 1 = omega (arith, c.in-Some.ensures.some.1) in
    let at : Stands items c.args.number c.in-Some.place old new = stands items c.args.number c.in-Some.place old new c.self.invariant.numbered within n c.index_mut-wire.ensures.value (ap (λ (w : Wire). w.number) c.go.ensures ∙ gone_number _ old) in
    table_changed items c.args.number c.in-Some.place old new at c.self.inside.busy c.add.new.self c.from-in-Some.result c.from-in-Some.ensures c.self.invariant c.in_ok-add-in-Some.ensures.added c.in_ok-add-in-Some.ensures.kept

pub returns-in_ok-add-in-Some-clause-ok : goal.returns-in_ok-add-in-Some-clause-ok
returns-in_ok-add-in-Some-clause-ok c =
    let items : List Wire = c.self.inside.held.items in
    let old : Wire = c.index_mut-wire.result.now in
    let new : Wire = c.go.new.self in
    let within = rw c.as_slice.ensures.value at c.in-Some.ensures.some.0 in
    let n : c.args.number ≡ c.in-Some.place + 1 = omega (arith, c.in-Some.ensures.some.1) in
    let at : Stands items c.args.number c.in-Some.place old new = stands items c.args.number c.in-Some.place old new c.self.invariant.numbered within n c.index_mut-wire.ensures.value (ap (λ (w : Wire). w.number) c.go.ensures ∙ gone_number _ old) in
    rw (← c.self.view_is, at.found) (sym at.changed ∙ ap (λ (w : Wire). with_wire items w) (c.go.ensures ∙ ap (λ (s : Side). gone_at old s) c.side_of-side.ensures))
