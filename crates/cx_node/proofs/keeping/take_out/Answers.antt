use Rattle.std.proofs.Common.{◌≡◌, Option, Some, None, IfSome, IfNone, refl, sym, ◌∙◌}
use Rattle.cx_node.proofs.Edits.{is_found, is_missing, is_vacated, is_there}
use Rattle.cx_node.proofs.keeping.take_out.Goals as goal

some_of : {L : Type 0} {P : Type 0} (o : Option L) → P → IfSome o (λ _. P)
some_of None p = tt
some_of (Some l) p = p

none_of : {L : Type 0} (P : Type 0) (o : Option L) → (o ≡ None → ⊥) → IfNone o P
none_of P None other = absurd (other refl)
none_of P (Some l) other = tt

pub returns-in-Ok-clause-link : goal.returns-in-Ok-clause-link
returns-in-Ok-clause-link g c =
    c.vacate.ensures.value
    ∙ is_found g.L.Numbered.number_of c.args.number c.args.places.now.items c.in-Ok.place c.index_mut.result.now c.requires.kept (rw c.as_slice.ensures.value at c.in-Ok.ensures) c.index_mut.ensures.value

pub returns-in-Ok-clause-some : goal.returns-in-Ok-clause-some
returns-in-Ok-clause-some g c =
    some_of c.vacate.result
    (is_vacated g.L.Numbered.number_of c.args.number c.args.places.now.items _ c.in-Ok.place c.index_mut.result.now c.vacate.new.self c.requires.kept c.requires.full (rw c.as_slice.ensures.value at c.in-Ok.ensures) c.index_mut.ensures.value c.vacate.ensures.after refl)

pub returns-in-Ok-clause-none : goal.returns-in-Ok-clause-none
returns-in-Ok-clause-none g c =
    none_of _ c.vacate.result
    (λ none. is_there g.L.Numbered.number_of c.args.number c.args.places.now.items c.in-Ok.place c.index_mut.result.now c.requires.kept c.requires.full (rw c.as_slice.ensures.value at c.in-Ok.ensures) c.index_mut.ensures.value (sym c.vacate.ensures.value ∙ none))

pub returns-in-Err-clause-link : goal.returns-in-Err-clause-link
returns-in-Err-clause-link g c =
    sym (is_missing g.L.Numbered.number_of c.args.number c.args.places.now.items c.in-Err.field-0 c.requires.kept (rw c.as_slice.ensures.value at c.in-Err.ensures))
