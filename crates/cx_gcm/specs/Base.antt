-- The block whose powers these are.
use Rattle.std.specs.Prelude.{ℕ}
use Rattle.cx_gcm.specs.Key.{block_of}
use Rattle.cx_gcm.specs.declared.powers.Powers.{Powers}

abbrev pub base_of : Powers → ℕ
base_of p = block_of p.first
