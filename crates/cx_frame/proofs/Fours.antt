-- Numbers in bytes, and lists of four.
use Rattle.std.proofs.Common.{◌≡◌, ℕ, zero, suc, ◌+◌, ◌<◌, ◌^◌, List, [], ◌∷◌, slice_index, get_or, refl, arith}
use Rattle.std.specs.Int.{w16, w32, w64, to_le_bytes}
use Rattle.std.proofs.lemmas.Nat.{le_bytes_2, le_bytes_4, le_bytes_8}
use Rattle.cx_frame.specs.Banners.{number64}
use Rattle.cx_frame.specs.Preambles.{number16, number32}

-- bytes
abbrev pub AreBytes : List ℕ → Type 0
AreBytes b = (i : ℕ) → slice_index b i < 256

two_small : (x y : ℕ) → x < 256 → y < 256 → (i : ℕ) → get_or (x ∷ y ∷ []) i 0 < 256
two_small x y p q zero = p
two_small x y p q (suc zero) = q
two_small x y p q (suc (suc i)) = omega arith

four_small : (x y z w : ℕ) → x < 256 → y < 256 → z < 256 → w < 256 → (i : ℕ) → get_or (x ∷ y ∷ z ∷ w ∷ []) i 0 < 256
four_small x y z w p q r s zero = p
four_small x y z w p q r s (suc zero) = q
four_small x y z w p q r s (suc (suc i)) = two_small z w r s i

-- a number that was read is spelled by the bytes in which it was read
pub spelled16 : (b : List ℕ) → AreBytes b → (i : ℕ) → to_le_bytes w16 (number16 b i) ≡ slice_index b i ∷ slice_index b (i + 1) ∷ []
spelled16 b are i = le_bytes_2 (slice_index b i ∷ slice_index b (i + 1) ∷ []) (number16 b i) refl (two_small (slice_index b i) (slice_index b (i + 1)) (are i) (are (i + 1))) refl

pub spelled32 : (b : List ℕ) → AreBytes b → (i : ℕ) → to_le_bytes w32 (number32 b i) ≡ slice_index b i ∷ slice_index b (i + 1) ∷ slice_index b (i + 2) ∷ slice_index b (i + 3) ∷ []
spelled32 b are i =
    le_bytes_4 (slice_index b i ∷ slice_index b (i + 1) ∷ slice_index b (i + 2) ∷ slice_index b (i + 3) ∷ []) (number32 b i) refl
    (four_small (slice_index b i) (slice_index b (i + 1)) (slice_index b (i + 2)) (slice_index b (i + 3)) (are i) (are (i + 1)) (are (i + 2)) (are (i + 3))) refl

eight_small : (a b c d x y z w : ℕ) → a < 256 → b < 256 → c < 256 → d < 256 → x < 256 → y < 256 → z < 256 → w < 256
    → (i : ℕ) → get_or (a ∷ b ∷ c ∷ d ∷ x ∷ y ∷ z ∷ w ∷ []) i 0 < 256
eight_small a b c d x y z w ha hb hc hd hx hy hz hw zero = ha
eight_small a b c d x y z w ha hb hc hd hx hy hz hw (suc zero) = hb
eight_small a b c d x y z w ha hb hc hd hx hy hz hw (suc (suc zero)) = hc
eight_small a b c d x y z w ha hb hc hd hx hy hz hw (suc (suc (suc zero))) = hd
eight_small a b c d x y z w ha hb hc hd hx hy hz hw (suc (suc (suc (suc i)))) = four_small x y z w hx hy hz hw i

pub spelled64 : (b : List ℕ) → AreBytes b → (i : ℕ) → to_le_bytes w64 (number64 b i)
    ≡ slice_index b i ∷ slice_index b (i + 1) ∷ slice_index b (i + 2) ∷ slice_index b (i + 3) ∷ slice_index b (i + 4) ∷ slice_index b (i + 5) ∷ slice_index b (i + 6) ∷ slice_index b (i + 7) ∷ []
spelled64 b are i =
    le_bytes_8
    (slice_index b i ∷ slice_index b (i + 1) ∷ slice_index b (i + 2) ∷ slice_index b (i + 3) ∷ slice_index b (i + 4) ∷ slice_index b (i + 5) ∷ slice_index b (i + 6) ∷ slice_index b (i + 7) ∷ [])
    (number64 b i) refl
    (eight_small (slice_index b i) (slice_index b (i + 1)) (slice_index b (i + 2)) (slice_index b (i + 3)) (slice_index b (i + 4)) (slice_index b (i + 5)) (slice_index b (i + 6)) (slice_index b (i + 7))
    (are i) (are (i + 1)) (are (i + 2)) (are (i + 3)) (are (i + 4)) (are (i + 5)) (are (i + 6)) (are (i + 7))) refl

pub below16 : (b : List ℕ) → AreBytes b → (i : ℕ) → number16 b i < 2 ^ 16
below16 b are i = omega (arith, are i, are (i + 1))

pub below32 : (b : List ℕ) → AreBytes b → (i : ℕ) → number32 b i < 2 ^ 32
below32 b are i = omega (arith, are i, are (i + 1), are (i + 2), are (i + 3))

-- four numbers that are below a bound
pub each_below : (m x y z w : ℕ) → 0 < m → x < m → y < m → z < m → w < m → (i : ℕ) → slice_index (x ∷ y ∷ z ∷ w ∷ []) i < m
each_below m x y z w o p q r s zero = p
each_below m x y z w o p q r s (suc zero) = q
each_below m x y z w o p q r s (suc (suc zero)) = r
each_below m x y z w o p q r s (suc (suc (suc zero))) = s
each_below m x y z w o p q r s (suc (suc (suc (suc i)))) = o
