use Rattle.std.proofs.Common.{◌<◌, List, length, refl, sym, ◌∙◌}
use Rattle.std.proofs.lemmas.Option.{slice_get_read}
use Rattle.cx_run.specs.Wires.{Wire}
use Rattle.cx_world_start.proofs.links.Numbers.{found_here}
use Rattle.cx_world_start.proofs.wires.Wires.get.Goals as goal

pub returns-in-Some : goal.returns-in-Some
returns-in-Some c =
    let items : List Wire = c.self.inside.held.items in
    let place = c.in-Some.place in
    let within : place < length items = rw c.as_slice.ensures.value at c.in-Some.ensures.some.0 in
    rw (← c.self.view_is) (sym (found_here c.args.number place items c.self.invariant.numbered c.in-Some.ensures.some.1 ∙ slice_get_read items (length items) place c.index.result.now refl within c.index.ensures))
