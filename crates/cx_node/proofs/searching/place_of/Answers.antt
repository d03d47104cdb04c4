-- The first place that isn't below the number is its own, or it has none.
use Rattle.std.proofs.Common.{◌<◌, length, arith, sym, ◌∙◌}
use Rattle.cx_node.proofs.Ranks.{found_at, missing_at}
use Rattle.cx_node.proofs.searching.place_of.Goals as goal

pub returns-then-number : goal.returns-then-number
returns-then-number g c =
    let within : c.rank-rank.result < length c.args.places.now = omega (arith, c.rank-rank.ensures.within, c.if-rank-places.false) in
    found_at c.args.number c.args.places.now c.rank-rank.result c.index-places-rank.result c.requires c.rank-rank.ensures.below within c.index-places-rank.is (sym c.number.ensures ∙ c.if-number.true)

pub returns-else-number : goal.returns-else-number
returns-else-number g c =
    let within : c.rank-rank.result < length c.args.places.now = omega (arith, c.rank-rank.ensures.within, c.if-rank-places.false) in
    missing_at c.args.number c.args.places.now c.rank-rank.result c.index-places-rank.result c.requires c.rank-rank.ensures.below c.rank-rank.ensures.from within c.index-places-rank.is (λ same. c.if-number.false (c.number.ensures ∙ same))
