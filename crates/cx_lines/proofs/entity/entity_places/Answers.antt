use Rattle.std.proofs.Common.{◌<◌, ◌∙◌, arith, length, Bor, List, ℕ}
use Rattle.std.proofs.lemmas.Grind.{common_steps}
use Rattle.cx_lines.proofs.Pairs.{one_left}
use Rattle.cx_lines.proofs.entity.entity_places.Goals as goal

pub returns : goal.returns
returns c =
    let some : 0 < length c.loop-rest.rest.now = grind (arith, common_steps) in
    rw (c.in_ok-push-4.ensures.items, c.in_ok-push-3.ensures.items)
    (one_left (λ (w : Bor (List ℕ)). w.now) c.loop-rest.found.items c.loop-rest.rest.now c.in_default-rest.len_below some ∙ c.loop-rest.invariant)
