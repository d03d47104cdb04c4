use Rattle.std.proofs.Common.{◌≡◌, ℕ, List, map, bit_xor, refl}
use lib.Lanes.{zip2}
use Rattle.cx_aes.specs.Lookup.{entry, high, is_index, low}
use Rattle.cx_aes.proofs.Maps.{indices-map, looks, sums}
use Rattle.cx_aes.specs.declared.basis.TheConstants.{INVERSE, QUOTIENT}
use Rattle.cx_aes.specs.Basis.{right}
use Rattle.cx_aes.proofs.basis.right.Goals as goal

difference : ℕ → ℕ
difference x = bit_xor (low x) (high x)

-- the index of the second look-up in the table of inverses
inner : ℕ → ℕ
inner x = bit_xor (entry INVERSE (difference x)) (entry QUOTIENT (low x))

inner-is : (v d l a b out : List ℕ) → d ≡ map difference v → a ≡ map (entry INVERSE) d → l ≡ map low v → b ≡ map (entry QUOTIENT) l
    → out ≡ zip2 bit_xor a b → out ≡ map inner v
unfolding inner
inner-is v d l a b out ed ea el eb e =
    sums (λ x. entry INVERSE (difference x)) (λ x. entry QUOTIENT (low x)) v a b out e
    (looks INVERSE difference v d a ea ed) (looks QUOTIENT low v l b eb el)

difference-is : (v l h out : List ℕ) → l ≡ map low v → h ≡ map high v → out ≡ zip2 bit_xor l h → out ≡ map difference v
unfolding difference
difference-is v l h out el eh e = sums low high v l h out e el eh

pub looked_up-requires : goal.looked_up-requires
unfolding is_index difference high low
looked_up-requires c =
    indices-map difference c.args.state c.sum-difference.result c.fits-state refl
    (difference-is c.args.state c.low.result c.high.result c.sum-difference.result c.low.ensures c.high.ensures c.sum-difference.ensures)

pub looked_up-requires-2 : goal.looked_up-requires-2
unfolding is_index low
looked_up-requires-2 c = indices-map low c.args.state c.low-2.result c.fits-state refl c.low-2.ensures

pub looked_up-requires-3 : goal.looked_up-requires-3
unfolding is_index inner difference entry high low
looked_up-requires-3 c =
    indices-map inner c.args.state c.sum-inner.result c.fits-state refl
    (inner-is c.args.state c.sum-difference.result c.low-2.result c.looked_up.result c.looked_up-2.result c.sum-inner.result
    (difference-is c.args.state c.low.result c.high.result c.sum-difference.result c.low.ensures c.high.ensures c.sum-difference.ensures)
    c.looked_up.ensures c.low-2.ensures c.looked_up-2.ensures c.sum-inner.ensures)

pub returns : goal.returns
unfolding right inner difference
returns c =
    let v = c.args.state in
    sums (λ x. entry INVERSE (inner x)) high v c.looked_up-3.result c.high-2.result c.sum.result c.sum.ensures
    (looks INVERSE inner v c.sum-inner.result c.looked_up-3.result c.looked_up-3.ensures
    (inner-is v c.sum-difference.result c.low-2.result c.looked_up.result c.looked_up-2.result c.sum-inner.result
    (difference-is v c.low.result c.high.result c.sum-difference.result c.low.ensures c.high.ensures c.sum-difference.ensures)
    c.looked_up.ensures c.low-2.ensures c.looked_up-2.ensures c.sum-inner.ensures))
    c.high-2.ensures
