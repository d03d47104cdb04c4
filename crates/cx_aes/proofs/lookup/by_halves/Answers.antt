use Rattle.std.proofs.Common.{refl}
use Rattle.cx_aes.specs.Lookup.{by_halves, entry, high, is_index, low}
use Rattle.cx_aes.proofs.Maps.{indices-map, looks, sums}
use Rattle.cx_aes.proofs.lookup.by_halves.Goals as goal

pub looked_up-requires : goal.looked_up-requires
unfolding is_index low
looked_up-requires c = indices-map low c.args.bytes c.low.result c.fits-bytes refl c.low.ensures

pub looked_up-requires-2 : goal.looked_up-requires-2
unfolding is_index high
looked_up-requires-2 c = indices-map high c.args.bytes c.high.result c.fits-bytes refl c.high.ensures

pub returns : goal.returns
unfolding by_halves
returns c =
    let v = c.args.bytes in
    sums (λ x. entry c.args.lower (low x)) (λ x. entry c.args.upper (high x)) v c.looked_up.result c.looked_up-2.result c.sum.result
    c.sum.ensures
    (looks c.args.lower low v c.low.result c.looked_up.result c.looked_up.ensures c.low.ensures)
    (looks c.args.upper high v c.high.result c.looked_up-2.result c.looked_up-2.ensures c.high.ensures)
