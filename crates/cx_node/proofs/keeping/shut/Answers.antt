use Rattle.std.proofs.Common.{◌≡◌, true, false, Option, Some, None, sym, ◌∙◌}
use Rattle.std.specs.Option.{is_some, option_copied}
use denote.Ref.{Bor}
use Rattle.cx_node.proofs.Edits.{is_removed, is_left, is_as_before}
use Rattle.cx_node.proofs.keeping.shut.Goals as goal

-- what a look into a place told
held_there : {L : Type 0} (seen : Option (Bor L)) (o : Option L) → option_copied seen ≡ o → is_some seen ≡ true → (l : L) × (o ≡ Some l)
held_there None o is some = absurd cc
held_there (Some l) o is some = (l.now, sym is)

none_there : {L : Type 0} (seen : Option (Bor L)) (o : Option L) → option_copied seen ≡ o → is_some seen ≡ false → o ≡ None
none_there None o is none = sym is
none_there (Some l) o is none = absurd cc

pub returns-in_default : goal.returns-in_default
returns-in_default g c =
    is_as_before g.L.Numbered.number_of c.args.number c.args.places.now.items c.in_default.field-0 c.requires (rw c.as_slice.ensures.value at c.in_default.ensures)

pub returns-then-is_some : goal.returns-then-is_some
returns-then-is_some g c =
    let found = rw c.as_slice.ensures.value at c.in-Ok.ensures in
    let there = held_there c.link.result c.index.result.now.link c.link.ensures (sym c.is_some.ensures ∙ c.if-is_some.true) in
    is_removed g.L.Numbered.number_of c.args.number c.args.places.now.items c.remove.new.self.items c.in-Ok.place c.index.result.now there.0 c.requires found c.index.ensures there.1 c.remove.ensures.items

pub returns-else-is_some : goal.returns-else-is_some
returns-else-is_some g c =
    let found = rw c.as_slice.ensures.value at c.in-Ok.ensures in
    is_left g.L.Numbered.number_of c.args.number c.args.places.now.items c.in-Ok.place c.index.result.now c.requires found c.index.ensures (none_there c.link.result c.index.result.now.link c.link.ensures (sym c.is_some.ensures ∙ c.if-is_some.false))
