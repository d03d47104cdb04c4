-- The block whose multiples the tables hold.
use Rattle.std.specs.Prelude.{ℕ, [], slice_index_or}
use Rattle.cx_aes.specs.Lookup.{by_halves}
use Rattle.cx_gcm.specs.declared.multiples.Multiples.{Multiples}
use Rattle.cx_gcm.specs.Multiples.{table_block}

abbrev pub block_of : Multiples → ℕ
block_of m = table_block m.upper

-- byte `place` of the product with one byte
abbrev pub column_of : Multiples → ℕ → ℕ → ℕ
column_of m place = by_halves (slice_index_or m.lower place []) (slice_index_or m.upper place [])
