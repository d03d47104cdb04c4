use Rattle.std.proofs.Common.{◌≡◌, ℕ, List, ap, ◌∙◌, sym}
use Rattle.cx_gcm.specs.Blocks.{number, product, spelled}
use Rattle.cx_gcm.specs.Key.{block_of}
use Rattle.cx_gcm.specs.declared.multiples.Multiples.{Multiples}
use Rattle.cx_gcm.proofs.Digits.{number-spelled}
use Rattle.cx_gcm.proofs.Linear.{product-lt}
use Rattle.cx_gcm.proofs.Steps.{table-lt}
use Rattle.cx_gcm.proofs.powers.Powers.new.Goals as goal

-- a power, by the multiples of the block times the block of the one before
next : (first made : Multiples) (block made_of : List ℕ) → made_of ≡ spelled (product (number block) (block_of first)) → block_of made ≡ number made_of
    → block_of made ≡ product (number block) (block_of first)
next first made block made_of e is =
    is ∙ ap number e
    ∙ number-spelled (product (number block) (block_of first)) (product-lt (number block) (block_of first) (table-lt first.upper first.lower first.products))

pub invariant_of-result : goal.invariant_of-result
invariant_of-result c =
    let first = c.new-first.result in
    let h = c.args.h.now in
    let square = next first c.new-second.result h c.times-square.result c.times-square.ensures c.new-second.ensures in
    let cube = next first c.new-third.result c.times-square.result c.times-cube.result c.times-cube.ensures c.new-third.ensures in
    let fourth = next first c.new-fourth.result c.times-cube.result c.times.result c.times.ensures c.new-fourth.ensures in
    record {
      powers = record {
        square = square ∙ ap (λ v. product v (block_of first)) (sym c.new-first.ensures);
        cube = cube ∙ ap (λ v. product v (block_of first)) (sym c.new-second.ensures);
        tesseract = fourth ∙ ap (λ v. product v (block_of first)) (sym c.new-third.ensures);
      };
    }
