use Rattle.std.proofs.Common.{refl}
use Rattle.cx_aes.specs.Lookup.{entry, high, is_index, low}
use Rattle.cx_aes.proofs.Maps.{indices-map, looks, sums}
use Rattle.cx_aes.specs.Basis.{by_parts, left, right}
use Rattle.cx_aes.proofs.basis.by_parts.Goals as goal

pub looked_up-requires : goal.looked_up-requires
unfolding is_index left entry high low
looked_up-requires c = indices-map left c.args.state c.left.result c.fits-state refl c.left.ensures

pub looked_up-requires-2 : goal.looked_up-requires-2
unfolding is_index right entry high low
looked_up-requires-2 c = indices-map right c.args.state c.right.result c.fits-state refl c.right.ensures

pub returns : goal.returns
unfolding by_parts
returns c =
    let v = c.args.state in
    sums (λ x. entry c.args.first (left x)) (λ x. entry c.args.second (right x)) v c.looked_up.result c.looked_up-2.result c.sum.result
    c.sum.ensures
    (looks c.args.first left v c.left.result c.looked_up.result c.looked_up.ensures c.left.ensures)
    (looks c.args.second right v c.right.result c.looked_up-2.result c.looked_up-2.ensures c.right.ensures)
