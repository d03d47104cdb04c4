use Rattle.std.proofs.Common.{◌≡◌, ◌+◌, ◌-◌, length, map, refl, ap, ◌∙◌, sym, arith}
use Rattle.std.proofs.lemmas.List.{length-map}
use Rattle.cx_aes.proofs.Maps.{bytes_of_vector}
use Rattle.cx_gcm.specs.Blocks.{product}
use Rattle.cx_gcm.specs.Key.{block_of, column_of}
use Rattle.cx_gcm.proofs.ColumnProducts.{horner}
use Rattle.cx_gcm.proofs.Steps.{begins, goes_on, no_rest, number-front, of_vector, product_of_columns, rest_goes_on}
use Rattle.cx_gcm.proofs.multiples.Multiples.product.Goals as goal

pub loop-n-init : goal.loop-n-init
loop-n-init c = record {
  lower_len = c.type_inv.lower.0;
  upper_len = refl;
  sum = begins (λ j. map (column_of c.args.self.now j) c.args.x) c.column-lower.result c.column-lower.ensures;
  rest = λ i le. no_rest i;
}

pub loop-n-preserved : goal.loop-n-preserved
loop-n-preserved c =
    let x = c.args.x in
    let lower = c.loop-n.lower in
    let upper = c.loop-n.upper in
    let up = c.next_upper-upper.result in
    let n = c.loop-n.n in
    let before = c.loop-n.invariant in
    record {
      lower_len = c.type_inv.lower.0;
      upper_len = c.type_inv.upper.0;
      sum = goes_on (λ j. map (column_of c.args.self.now j) x) lower upper c.column.result up c.next_lower-lower.result n (omega arith)
          before.lower_len before.upper_len (ap length c.column.ensures ∙ length-map x (column_of c.args.self.now (14 - n)) ∙ c.fits-x.0)
          (before.rest 15 (omega arith)) c.next_upper-upper.ensures c.next_lower-lower.ensures c.column.ensures before.sum;
      rest = rest_goes_on lower upper up n before.upper_len c.next_upper-upper.ensures before.rest;
    }

pub reduced-product-requires : goal.reduced-product-requires
reduced-product-requires c = c.loop-n.invariant.rest 15 (omega arith)

pub returns : goal.returns
returns c =
    let self = c.args.self.now in
    let x = c.args.x in
    let n = c.loop-n.n in
    let all : n + 1 ≡ 16 = omega arith in
    sym (number-front c.reduced-product.result c.are_sixteen.ensures) ∙ c.reduced-product.ensures ∙ c.loop-n.invariant.sum
    ∙ ap (horner (λ j. map (column_of self j) x)) all
    ∙ product_of_columns self.upper self.lower self.products x (bytes_of_vector x c.fits-x)
    ∙ ap (λ v. product v (block_of self)) (number-front x (of_vector x c.fits-x))
