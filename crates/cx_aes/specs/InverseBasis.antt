-- What the tables of sixteen give in the second basis, byte by byte. No public clause speaks of it.
use Rattle.std.specs.Prelude.{ℕ, bit_xor}
use Rattle.cx_aes.specs.Lookup.{by_halves}
use Rattle.cx_aes.specs.Basis.{by_parts}
use Rattle.cx_aes.specs.declared.inverse_basis.TheConstants.{BACK_LOW, BACK_HIGH, BACK, FOURTEEN_LEFT, FOURTEEN_RIGHT, ELEVEN_LEFT, ELEVEN_RIGHT, THIRTEEN_LEFT, THIRTEEN_RIGHT, NINE_LEFT, NINE_RIGHT, UNDONE_LEFT, UNDONE_RIGHT}

-- the linear map of a byte
unfoldable pub linear : ℕ → ℕ
linear x = by_halves BACK_LOW BACK_HIGH x

-- a byte in the second basis
unfoldable pub back : ℕ → ℕ
back x = bit_xor (linear x) BACK

-- from a byte in the second basis: the inverse S-box times 14, 11, 13 and 9, each under the linear map
unfoldable pub fourteen : ℕ → ℕ
fourteen x = by_parts FOURTEEN_LEFT FOURTEEN_RIGHT x

unfoldable pub eleven : ℕ → ℕ
eleven x = by_parts ELEVEN_LEFT ELEVEN_RIGHT x

unfoldable pub thirteen : ℕ → ℕ
thirteen x = by_parts THIRTEEN_LEFT THIRTEEN_RIGHT x

unfoldable pub nine : ℕ → ℕ
nine x = by_parts NINE_LEFT NINE_RIGHT x

-- and the inverse S-box
unfoldable pub undone : ℕ → ℕ
undone x = by_parts UNDONE_LEFT UNDONE_RIGHT x
