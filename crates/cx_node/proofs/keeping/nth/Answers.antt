use Rattle.std.proofs.Common.{sym, ◌∙◌, arith}
use Rattle.cx_node.proofs.Slots.{link_at, none_past}
use Rattle.cx_node.proofs.keeping.nth.Goals as goal

pub returns-then-place-places : goal.returns-then-place-places
returns-then-place-places g c =
    c.link.ensures ∙ link_at c.args.places.now c.args.place c.index-places-place.result c.requires (omega arith) c.index-places-place.is

pub returns-else-place-places : goal.returns-else-place-places
returns-else-place-places g c = sym (none_past c.args.places.now c.args.place (omega arith))
