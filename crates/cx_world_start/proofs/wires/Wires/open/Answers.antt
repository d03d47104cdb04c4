use Rattle.std.proofs.Common.{List, sym, subst, ap, arith}
use Rattle.cx_run.specs.Wires.{Wire}
use Rattle.cx_world_start.proofs.links.Calming.{new_calm, table_opened}
use Rattle.cx_world_start.specs.links.Calm.{IsCalm}
use Rattle.cx_world_start.proofs.wires.Wires.open.Goals as goal

pub invariant_of-self-2 : goal.invariant_of-self-2
invariant_of-self-2 c =
    let items : List Wire = c.self.inside.held.items in
    let wire : Wire = c.new-wire.result in
    rw c.in_ok-push.ensures.items (table_opened c.self.inside.busy items wire c.self.invariant (subst IsCalm (sym c.new-wire.ensures) (new_calm _ _ _))
    (omega (arith, c.self.inside.held.ok.0, ap (λ (w : Wire). w.number) c.new-wire.ensures)))
