-- Bytes as elements of the field GF(2^8), and the S-box: FIPS 197, sections 4 and 5.1.1.
-- A byte is a number below 256 whose bit i is the coefficient of x^i.
use Rattle.std.specs.Prelude.{ℕ, zero, suc, ◌+◌, ◌*◌, ◌/◌, ◌%◌, ◌^◌, ◌==◌, if◌then◌else◌, nat_lt, bit_xor, find, sum_by, unwrap_or}
use Rattle.std.specs.Int.{bit_at}
use Rattle.std.specs.List.{range_with_len}

-- x times a byte, reduced by x^8 + x^4 + x^3 + x + 1, which is 0x11b (4.2, xTimes)
unfoldable pub xtimes : ℕ → ℕ
xtimes a = if nat_lt a 128 then 2 * a else bit_xor (2 * a) 0x11b

-- a times the n lowest bits of b: a where bit 0 is set, and x times what the bits above it give (4.2)
unfoldable pub product : ℕ → ℕ → ℕ → ℕ
product zero a b = 0
product (suc n) a b = bit_xor (if b % 2 == 1 then a else 0) (xtimes (product n a (b / 2)))

-- the product of two bytes (4.2)
unfoldable pub times : ℕ → ℕ → ℕ
times a b = product 8 a b

-- the byte whose product with a is 1, and 0 for 0 (4.4 and 5.1.1, step 1)
unfoldable pub inverse : ℕ → ℕ
inverse a = unwrap_or (find (λ b. times a b == 1) (range_with_len 0 256)) 0

-- bit i of the affine map (5.1.1, step 2)
unfoldable pub affine_bit : ℕ → ℕ → ℕ
affine_bit b i =
    (bit_at b i + bit_at b ((i + 4) % 8) + bit_at b ((i + 5) % 8) + bit_at b ((i + 6) % 8)
    + bit_at b ((i + 7) % 8) + bit_at 0x63 i) % 2

-- the byte with these bits
unfoldable pub affine : ℕ → ℕ
affine b = sum_by (λ i. affine_bit b i * 2 ^ i) (range_with_len 0 8)

-- the S-box (5.1.1)
unfoldable pub sbox : ℕ → ℕ
sbox a = affine (inverse a)

-- bit i of the inverse of the affine map (5.3.2)
unfoldable pub inverse_affine_bit : ℕ → ℕ → ℕ
inverse_affine_bit b i =
    (bit_at b ((i + 2) % 8) + bit_at b ((i + 5) % 8) + bit_at b ((i + 7) % 8) + bit_at 0x05 i) % 2

-- the byte with these bits
unfoldable pub inverse_affine : ℕ → ℕ
inverse_affine b = sum_by (λ i. inverse_affine_bit b i * 2 ^ i) (range_with_len 0 8)

-- the inverse S-box (5.3.2)
unfoldable pub inverse_sbox : ℕ → ℕ
inverse_sbox b = inverse (inverse_affine b)
