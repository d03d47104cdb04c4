use Rattle.std.proofs.Common.{sym, ◌∙◌}
use Rattle.cx_node.proofs.Edits.{is_found, is_missing}
use Rattle.cx_node.proofs.keeping.find.Goals as goal

pub returns-in-Ok : goal.returns-in-Ok
returns-in-Ok g c =
    c.link.ensures ∙ is_found g.L.Numbered.number_of c.args.number c.args.places.now c.in-Ok.place c.index-places-place.result c.requires c.in-Ok.ensures c.index-places-place.is

pub returns-in-Err : goal.returns-in-Err
returns-in-Err g c =
    sym (is_missing g.L.Numbered.number_of c.args.number c.args.places.now c.in-Err.field-0 c.requires c.in-Err.ensures)
