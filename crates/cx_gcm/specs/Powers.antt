-- The multiples of the powers of a block.
use Rattle.std.specs.Prelude.{◌≡◌}
use Rattle.cx_gcm.specs.Blocks.{product}
use Rattle.cx_gcm.specs.Key.{block_of}
use Rattle.cx_gcm.specs.declared.multiples.Multiples.{Multiples}

pub record ArePowers (first second third fourth : Multiples) : Type 0 where
  pub square : block_of second ≡ product (block_of first) (block_of first)
  pub cube : block_of third ≡ product (block_of second) (block_of first)
  pub tesseract : block_of fourth ≡ product (block_of third) (block_of first)
