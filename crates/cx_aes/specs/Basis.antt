-- What the tables of sixteen give, byte by byte. No public clause speaks of it.
use Rattle.std.specs.Prelude.{ℕ, List, bit_xor}
use Rattle.cx_aes.specs.Lookup.{by_halves, entry, high, low}
use Rattle.cx_aes.specs.declared.basis.TheConstants.{INTO_LOW, INTO_HIGH, INVERSE, QUOTIENT, ONCE_LEFT, ONCE_RIGHT, ONCE, TWICE_LEFT, TWICE_RIGHT, TWICE, LAST_LEFT, LAST_RIGHT, LAST}

-- a byte in the basis
unfoldable pub into : ℕ → ℕ
into x = by_halves INTO_LOW INTO_HIGH x

-- the two parts of the inverse of a byte that is in the basis
unfoldable pub left : ℕ → ℕ
left x = bit_xor (entry INVERSE (bit_xor (entry INVERSE (high x)) (entry QUOTIENT (low x)))) (bit_xor (low x) (high x))

unfoldable pub right : ℕ → ℕ
right x = bit_xor (entry INVERSE (bit_xor (entry INVERSE (bit_xor (low x) (high x))) (entry QUOTIENT (low x)))) (high x)

-- the sum of a table's entry at the left part and another's at the right one
unfoldable pub by_parts : List ℕ → List ℕ → ℕ → ℕ
by_parts first second x = bit_xor (entry first (left x)) (entry second (right x))

-- from a byte in the basis: the S-box in the basis, the S-box times two in the basis, and the S-box
unfoldable pub once : ℕ → ℕ
once x = bit_xor (by_parts ONCE_LEFT ONCE_RIGHT x) ONCE

unfoldable pub twice : ℕ → ℕ
twice x = bit_xor (by_parts TWICE_LEFT TWICE_RIGHT x) TWICE

unfoldable pub last : ℕ → ℕ
last x = bit_xor (by_parts LAST_LEFT LAST_RIGHT x) LAST
