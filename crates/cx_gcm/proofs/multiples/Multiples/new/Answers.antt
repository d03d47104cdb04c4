use Rattle.std.proofs.Common.{◌≡◌, ◌<◌, ◌^◌, subst, ◌∙◌, ap, sym}
use Rattle.cx_gcm.specs.Blocks.{shifted}
use Rattle.cx_gcm.proofs.Steps.{block-lt, block_of_tables, is_table}
use Rattle.cx_gcm.proofs.Sums.{lower_columns, upper_columns}
use Rattle.cx_gcm.proofs.multiples.Multiples.new.Goals as goal

pub invariant_of-result : goal.invariant_of-result
invariant_of-result c =
    let h = c.number-eight.result in
    let small : h < 2 ^ 128 = subst (λ v. v < 2 ^ 128) (sym c.number-eight.ensures) (block-lt c.args.h.now c.told-h c.fits-h) in
    let upper = upper_columns h c.shifted-four.result c.shifted-two.result c.shifted-one.result c.columns.result c.shifted-four.ensures c.shifted-two.ensures c.shifted-one.ensures c.columns.ensures in
    let one = c.shifted-one.ensures ∙ ap shifted (c.shifted-two.ensures ∙ ap shifted c.shifted-four.ensures) in
    let lower = lower_columns h c.shifted-one.result c.shifted-lower_eight.result c.shifted-lower_four.result c.shifted-lower_two.result c.shifted-lower_one.result c.columns-2.result
    one c.shifted-lower_eight.ensures c.shifted-lower_four.ensures c.shifted-lower_two.ensures c.shifted-lower_one.ensures c.columns-2.ensures in
    record { products = is_table h c.columns.result c.columns-2.result (block_of_tables h c.columns.result small upper) upper lower }

pub returns : goal.returns
returns c =
    let h = c.number-eight.result in
    let small : h < 2 ^ 128 = subst (λ v. v < 2 ^ 128) (sym c.number-eight.ensures) (block-lt c.args.h.now c.told-h c.fits-h) in
    block_of_tables h c.columns.result small
    (upper_columns h c.shifted-four.result c.shifted-two.result c.shifted-one.result c.columns.result c.shifted-four.ensures c.shifted-two.ensures c.shifted-one.ensures c.columns.ensures)
    ∙ c.number-eight.ensures
