use Rattle.std.proofs.Common.{◌≡◌, ℕ, ◌+◌, ◌-◌, length, map, bit_xor, refl, ap, ◌∙◌, sym, arith}
use lib.Lanes.{zip2}
use Rattle.cx_gcm.specs.Blocks.{number, product}
use Rattle.cx_gcm.specs.Key.{block_of, column_of}
use Rattle.cx_gcm.proofs.ColumnProducts.{horner}
use Rattle.cx_gcm.proofs.Linear.{four_steps}
use Rattle.cx_gcm.proofs.Steps.{begins, goes_on, horner-four, length-four, no_rest, number-front, number-xor, of_vector, one_of_four, rest_goes_on, sixteen-xor, table-lt}
use Rattle.cx_gcm.proofs.powers.Powers.four_more.Goals as goal

-- the columns of all four
pub loop-n-init : goal.loop-n-init
loop-n-init c =
    let self = c.args.self.now in
    let x = zip2 bit_xor c.args.sum c.args.a in
    record {
      lower_len = c.type_inv.lower.0;
      upper_len = refl;
      sum = begins
          (λ j.
          zip2 bit_xor (zip2 bit_xor (map (column_of self.fourth j) x) (map (column_of self.third j) c.args.b)) (zip2 bit_xor (map (column_of self.second j) c.args.c) (map (column_of self.first j) c.args.d)))
          c.column-lower.result c.column-lower.ensures;
      rest = λ i le. no_rest i;
    }

pub loop-n-preserved : goal.loop-n-preserved
loop-n-preserved c =
    let self = c.args.self.now in
    let x = zip2 bit_xor c.args.sum c.args.a in
    let up = c.next_upper-upper.result in
    let n = c.loop-n.n in
    let before = c.loop-n.invariant in
    record {
      lower_len = c.type_inv.lower.0;
      upper_len = c.type_inv.upper.0;
      sum = goes_on
          (λ j.
          zip2 bit_xor (zip2 bit_xor (map (column_of self.fourth j) x) (map (column_of self.third j) c.args.b)) (zip2 bit_xor (map (column_of self.second j) c.args.c) (map (column_of self.first j) c.args.d)))
          c.loop-n.lower c.loop-n.upper c.column.result up c.next_lower-lower.result n (omega arith) before.lower_len before.upper_len
          (ap length c.column.ensures ∙ length-four (column_of self.fourth (14 - n)) (column_of self.third (14 - n)) (column_of self.second (14 - n))
          (column_of self.first (14 - n)) x c.args.b c.args.c c.args.d c.type_inv.a.0 c.fits-b.0 c.fits-c.0 c.fits-d.0)
          (before.rest 15 (omega arith)) c.next_upper-upper.ensures c.next_lower-lower.ensures c.column.ensures before.sum;
      rest = rest_goes_on c.loop-n.lower c.loop-n.upper up n before.upper_len c.next_upper-upper.ensures before.rest;
    }

pub reduced-sum-requires : goal.reduced-sum-requires
reduced-sum-requires c = c.loop-n.invariant.rest 15 (omega arith)

sums : {p p' q q' r r' t t' : ℕ} → p ≡ p' → q ≡ q' → r ≡ r' → t ≡ t' → bit_xor (bit_xor p q) (bit_xor r t) ≡ bit_xor (bit_xor p' q') (bit_xor r' t')
sums ep eq er et = cc (ep, eq, er, et)

pub returns : goal.returns
returns c =
    let self = c.args.self.now in
    let sum = of_vector c.args.sum c.fits-sum in
    let a = of_vector c.args.a c.fits-a in
    let b = of_vector c.args.b c.fits-b in
    let third = of_vector c.args.c c.fits-c in
    let d = of_vector c.args.d c.fits-d in
    let x = zip2 bit_xor c.args.sum c.args.a in
    let hx = sixteen-xor c.args.sum c.args.a sum a in
    let n = c.loop-n.n in
    let all : n + 1 ≡ 16 = omega arith in
    sym (number-front c.reduced-sum.result c.are_sixteen.ensures) ∙ c.reduced-sum.ensures ∙ c.loop-n.invariant.sum
    ∙ ap (horner
    (λ j.
    zip2 bit_xor (zip2 bit_xor (map (column_of self.fourth j) x) (map (column_of self.third j) c.args.b)) (zip2 bit_xor (map (column_of self.second j) c.args.c) (map (column_of self.first j) c.args.d))))
    all
    ∙ horner-four (column_of self.fourth) (column_of self.third) (column_of self.second) (column_of self.first) x c.args.b c.args.c c.args.d
    hx.len c.fits-b.0 c.fits-c.0 c.fits-d.0
    ∙ sums
    (one_of_four self.fourth.upper self.fourth.lower self.fourth.products x hx ∙ ap (λ v. product v (block_of self.fourth)) (number-xor c.args.sum c.args.a sum a))
    (one_of_four self.third.upper self.third.lower self.third.products c.args.b b)
    (one_of_four self.second.upper self.second.lower self.second.products c.args.c third)
    (one_of_four self.first.upper self.first.lower self.first.products c.args.d d)
    ∙ four_steps (number c.args.sum) (number c.args.a) (number c.args.b) (number c.args.c) (number c.args.d) (block_of self.first)
    (block_of self.second) (block_of self.third) (block_of self.fourth) (table-lt self.first.upper self.first.lower self.first.products)
    self.powers.square self.powers.cube self.powers.tesseract
