use Rattle.std.proofs.Common.{◌≡◌, ℕ, List, map, bit_xor, refl}
use lib.Lanes.{zip2}
use Rattle.cx_aes.specs.Lookup.{entry, high, is_index, low}
use Rattle.cx_aes.proofs.Maps.{indices-map, looks, sums}
use Rattle.cx_aes.specs.declared.basis.TheConstants.{INVERSE, QUOTIENT}
use Rattle.cx_aes.specs.Basis.{left}
use Rattle.cx_aes.proofs.basis.left.Goals as goal

-- the index of the second look-up in the table of inverses
inner : ℕ → ℕ
inner x = bit_xor (entry INVERSE (high x)) (entry QUOTIENT (low x))

inner-is : (v h l a b out : List ℕ) → h ≡ map high v → a ≡ map (entry INVERSE) h → l ≡ map low v → b ≡ map (entry QUOTIENT) l
    → out ≡ zip2 bit_xor a b → out ≡ map inner v
unfolding inner
inner-is v h l a b out eh ea el eb e =
    sums (λ x. entry INVERSE (high x)) (λ x. entry QUOTIENT (low x)) v a b out e (looks INVERSE high v h a ea eh) (looks QUOTIENT low v l b eb el)

pub looked_up-requires : goal.looked_up-requires
unfolding is_index high
looked_up-requires c = indices-map high c.args.state c.high.result c.fits-state refl c.high.ensures

pub looked_up-requires-2 : goal.looked_up-requires-2
unfolding is_index low
looked_up-requires-2 c = indices-map low c.args.state c.low.result c.fits-state refl c.low.ensures

pub looked_up-requires-3 : goal.looked_up-requires-3
unfolding is_index inner entry high low
looked_up-requires-3 c =
    indices-map inner c.args.state c.sum-inner.result c.fits-state refl
    (inner-is c.args.state c.high.result c.low.result c.looked_up.result c.looked_up-2.result c.sum-inner.result
    c.high.ensures c.looked_up.ensures c.low.ensures c.looked_up-2.ensures c.sum-inner.ensures)

pub returns : goal.returns
unfolding left inner
returns c =
    let v = c.args.state in
    sums (λ x. entry INVERSE (inner x)) (λ x. bit_xor (low x) (high x)) v c.looked_up-3.result c.sum.result c.sum-2.result c.sum-2.ensures
    (looks INVERSE inner v c.sum-inner.result c.looked_up-3.result c.looked_up-3.ensures
    (inner-is v c.high.result c.low.result c.looked_up.result c.looked_up-2.result c.sum-inner.result
    c.high.ensures c.looked_up.ensures c.low.ensures c.looked_up-2.ensures c.sum-inner.ensures))
    (sums low high v c.low-2.result c.high-2.result c.sum.result c.sum.ensures c.low-2.ensures c.high-2.ensures)
