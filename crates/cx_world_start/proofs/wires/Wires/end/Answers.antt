use Rattle.std.proofs.Common.{List, sym, subst, ap}
use Rattle.cx_run.specs.Wires.{Wire, ended}
use Rattle.cx_world_start.proofs.links.Calming.{ended_calm, table_kept}
use Rattle.cx_world_start.proofs.links.Numbers.{Stands, stands, changed_there}
use Rattle.cx_world_start.specs.links.Calm.{IsCalm}
use Rattle.cx_world_start.proofs.wires.Wires.end.Goals as goal

pub invariant_of-self : goal.invariant_of-self
invariant_of-self c =
    let items : List Wire = c.self.inside.held.items in
    let old : Wire = c.index_mut-wire.result.now in
    let new : Wire = c.end_both.new.self in
    let within = rw c.as_slice.ensures.value at c.in-Some.ensures.some.0 in
    let at : Stands items c.args.number c.in-Some.place old new = stands items c.args.number c.in-Some.place old new c.self.invariant.numbered within c.in-Some.ensures.some.1 c.index_mut-wire.ensures.value (ap (λ (w : Wire). w.number) c.end_both.ensures) in
    table_kept items c.args.number c.in-Some.place old new at c.self.inside.busy c.self.invariant (λ k. subst IsCalm (sym c.end_both.ensures) (ended_calm old))

pub returns-in-Some : goal.returns-in-Some
returns-in-Some c =
    let items : List Wire = c.self.inside.held.items in
    let old : Wire = c.index_mut-wire.result.now in
    let new : Wire = c.end_both.new.self in
    let within = rw c.as_slice.ensures.value at c.in-Some.ensures.some.0 in
    let at : Stands items c.args.number c.in-Some.place old new = stands items c.args.number c.in-Some.place old new c.self.invariant.numbered within c.in-Some.ensures.some.1 c.index_mut-wire.ensures.value (ap (λ (w : Wire). w.number) c.end_both.ensures) in
    rw (← c.self.view_is) (changed_there items c.args.number c.in-Some.place old new at ended c.end_both.ensures)
