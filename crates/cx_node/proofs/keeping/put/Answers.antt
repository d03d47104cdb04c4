use Rattle.std.proofs.Common.{◌≡◌, Option, Some, None, IsSome, refl}
use Rattle.cx_node.proofs.Edits.{is_put_again, is_put_new, is_missing}
use Rattle.cx_node.proofs.keeping.put.Goals as goal

none_there : {L : Type 0} (o : Option L) → o ≡ None → IsSome o → ⊥
none_there None is there = cc
none_there (Some l) is there = cc

pub returns-in_err-new-in-Err-clause-free : goal.returns-in_err-new-in-Err-clause-free
returns-in_err-new-in-Err-clause-free g c = λ there.
    absurd (none_there _ (is_missing g.L.Numbered.number_of (g.L.Numbered.number_of c.args.link) c.args.places.now.items c.in-Err.place c.requires.kept (rw (c.as_slice.ensures.value, c.number-number.ensures) at c.in-Err.ensures)) there)

pub returns-in_err-insert-in-Err-clause-free : goal.returns-in_err-insert-in-Err-clause-free
returns-in_err-insert-in-Err-clause-free g c = λ there.
    absurd (none_there _ (is_missing g.L.Numbered.number_of (g.L.Numbered.number_of c.args.link) c.args.places.now.items c.in-Err.place c.requires.kept (rw (c.as_slice.ensures.value, c.number-number.ensures) at c.in-Err.ensures)) there)

pub returns-in-Ok-clause-ok : goal.returns-in-Ok-clause-ok
returns-in-Ok-clause-ok g c =
    is_put_again g.L.Numbered.number_of c.args.places.now.items _ c.in-Ok.place c.index_mut.result.now c.fill.new.self c.args.link c.requires.kept c.requires.full (rw (c.as_slice.ensures.value, c.number-number.ensures) at c.in-Ok.ensures) c.index_mut.ensures.value c.fill.ensures refl

pub returns-in_ok-insert-in-Err-clause-ok : goal.returns-in_ok-insert-in-Err-clause-ok
returns-in_ok-insert-in-Err-clause-ok g c =
    is_put_new g.L.Numbered.number_of c.args.places.now.items c.insert.new.self.items c.in-Err.place c.in_ok-new-in-Err.new c.args.link c.requires.kept c.requires.full (rw (c.as_slice.ensures.value, c.number-number.ensures) at c.in-Err.ensures) (rw c.number-number.ensures at c.in_ok-new-in-Err.ensures) c.in_ok-insert-in-Err.ensures.items
