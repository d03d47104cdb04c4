use Rattle.std.proofs.Common.{refl}
use Rattle.cx_node.proofs.Edits.{is_put_back, is_kept}
use Rattle.cx_node.proofs.keeping.put_in.Goals as goal

pub unreachable-requires : goal.unreachable-requires
unreachable-requires g c =
    is_kept g.L.Numbered.number_of (g.L.Numbered.number_of c.args.link) c.args.places.now.items c.in-Err.field-0 c.requires.room (rw (c.as_slice.ensures.value, c.number.ensures) at c.in-Err.ensures)

pub returns : goal.returns
returns g c =
    is_put_back g.L.Numbered.number_of c.args.places.now.items _ c.in-Ok.place c.index_mut.result.now c.fill.new.self c.args.link c.requires.kept c.requires.room (rw (c.as_slice.ensures.value, c.number.ensures) at c.in-Ok.ensures) c.index_mut.ensures.value c.fill.ensures refl
