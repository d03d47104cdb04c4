use Rattle.cx_node.proofs.Edits.{is_given_up, is_kept}
use Rattle.cx_node.proofs.keeping.give_up.Goals as goal

pub unreachable-requires : goal.unreachable-requires
unreachable-requires g c =
    is_kept g.L.Numbered.number_of c.args.number c.args.places.now.items c.in-Err.field-0 c.requires.room (rw c.as_slice.ensures.value at c.in-Err.ensures)

pub returns : goal.returns
returns g c =
    is_given_up g.L.Numbered.number_of c.args.number c.args.places.now.items c.remove.new.self.items c.in-Ok.place c.remove.result c.requires.kept c.requires.room (rw c.as_slice.ensures.value at c.in-Ok.ensures) c.remove.ensures.value c.remove.ensures.items
