use Rattle.std.proofs.Common.{List, sym, subst, ap, ◌∙◌}
use Rattle.cx_run.specs.Wires.{Wire}
use Rattle.cx_world_start.proofs.links.Calming.{lost_calm, table_kept}
use Rattle.cx_world_start.proofs.links.Numbers.{Stands, stands, lost_there, pieces_number}
use Rattle.cx_world_start.specs.links.Calm.{IsCalm}
use Rattle.cx_world_start.proofs.wires.Wires.lose.Goals as goal

pub invariant_of-self : goal.invariant_of-self
invariant_of-self c =
    let items : List Wire = c.self.inside.held.items in
    let old : Wire = c.index_mut-wire.result.now in
    let new : Wire = c.lose_first.new.self in
    let within = rw c.as_slice.ensures.value at c.in-Some.ensures.some.0 in
    let at : Stands items c.args.number c.in-Some.place old new = stands items c.args.number c.in-Some.place old new c.self.invariant.numbered within c.in-Some.ensures.some.1 c.index_mut-wire.ensures.value (ap (λ (w : Wire). w.number) c.lose_first.ensures ∙ pieces_number c.args.side old _) in
    table_kept items c.args.number c.in-Some.place old new at c.self.inside.busy c.self.invariant (λ k. subst IsCalm (sym c.lose_first.ensures) (lost_calm old c.args.side k))

pub returns-in-Some : goal.returns-in-Some
returns-in-Some c =
    let items : List Wire = c.self.inside.held.items in
    let old : Wire = c.index_mut-wire.result.now in
    let new : Wire = c.lose_first.new.self in
    let within = rw c.as_slice.ensures.value at c.in-Some.ensures.some.0 in
    let at : Stands items c.args.number c.in-Some.place old new = stands items c.args.number c.in-Some.place old new c.self.invariant.numbered within c.in-Some.ensures.some.1 c.index_mut-wire.ensures.value (ap (λ (w : Wire). w.number) c.lose_first.ensures ∙ pieces_number c.args.side old _) in
    rw (← c.self.view_is) (lost_there items c.args.number c.in-Some.place old new at c.index_mut-wire.ensures.value c.args.side c.lose_first.ensures)
