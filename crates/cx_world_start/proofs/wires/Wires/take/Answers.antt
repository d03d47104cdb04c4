use Rattle.std.proofs.Common.{List}
use Rattle.std.proofs.lemmas.Result.{on_ok_weaker}
use Rattle.cx_run.specs.Wires.{Wire}
use Rattle.cx_world_start.proofs.links.Calming.{table_kept, taken_here}
use Rattle.cx_world_start.proofs.links.Numbers.{Stands, stands, taken_there}
use Rattle.cx_world_start.proofs.wires.Wires.take.Goals as goal

pub invariant_of-self : goal.invariant_of-self
invariant_of-self c =
    let items : List Wire = c.self.inside.held.items in
    let old : Wire = c.index_mut-wire.result.now in
    let new : Wire = c.take.new.self in
    let within = rw c.as_slice.ensures.value at c.in-Some.ensures.some.0 in
    let at : Stands items c.args.number c.in-Some.place old new = stands items c.args.number c.in-Some.place old new c.self.invariant.numbered within c.in-Some.ensures.some.1 c.index_mut-wire.ensures.value c.take.ensures.number in
    table_kept items c.args.number c.in-Some.place old new at c.self.inside.busy c.self.invariant (taken_here c.take.result old new c.args.side c.args.n c.take.ensures.ok c.take.ensures.err)

pub returns-in-Some-clause-value : goal.returns-in-Some-clause-value
returns-in-Some-clause-value c =
    let items : List Wire = c.self.inside.held.items in
    let old : Wire = c.index_mut-wire.result.now in
    let new : Wire = c.take.new.self in
    let within = rw c.as_slice.ensures.value at c.in-Some.ensures.some.0 in
    let at : Stands items c.args.number c.in-Some.place old new = stands items c.args.number c.in-Some.place old new c.self.invariant.numbered within c.in-Some.ensures.some.1 c.index_mut-wire.ensures.value c.take.ensures.number in
    rw (← c.self.view_is, at.found) c.take.ensures.value

pub returns-in-Some-clause-ok : goal.returns-in-Some-clause-ok
returns-in-Some-clause-ok c =
    let items : List Wire = c.self.inside.held.items in
    let old : Wire = c.index_mut-wire.result.now in
    let new : Wire = c.take.new.self in
    let within = rw c.as_slice.ensures.value at c.in-Some.ensures.some.0 in
    let at : Stands items c.args.number c.in-Some.place old new = stands items c.args.number c.in-Some.place old new c.self.invariant.numbered within c.in-Some.ensures.some.1 c.index_mut-wire.ensures.value c.take.ensures.number in
    rw (← c.self.view_is) (on_ok_weaker c.take.result (taken_there items c.args.number c.in-Some.place old new at c.index_mut-wire.ensures.value c.args.side c.args.n) c.take.ensures.ok)
