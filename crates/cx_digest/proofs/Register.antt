-- The register after eight bits, by one read of the table.
use Rattle.std.proofs.Common.{◌≡◌, ℕ, zero, suc, ◌+◌, ◌*◌, ◌/◌, ◌%◌, ◌^◌, ◌<◌, ◌==◌, true, false, if◌then◌else◌, List, [], ◌∷◌, ◌⊎◌, All, inl, inr, length, map, replicate, get_or, refl, ap, sym, ◌∙◌, bit_xor, arith}
use Rattle.std.specs.Int.Bits.{xor_assoc, xor_zero_l, xor_zero_r}
use Rattle.std.proofs.Math.Nat.{mul-mod_right}
use Rattle.std.proofs.lemmas.Nat.{xor_comm, xor_shr, xor_mod, xor_block}
use Rattle.std.proofs.lemmas.List.FromFn.{get_or-map-range_with_len}
use Rattle.std.specs.List.{range_with_len}
use Rattle.cx_digest.specs.Checksum.{polynomial, after_bit, after_bits, low_bits, crc32c}
use Rattle.std.proofs.lemmas.List.Elements.{All-from_recursion, All-head, All-tail}
use Rattle.cx_digest.specs.declared.tables.TheConstants.{TABLES}
use Rattle.cx_digest.specs.Moved.{moved, zeros}
use Rattle.cx_digest.proofs.Sums.{crc32c_first, crc32c_none}

-- ---- what stands above the lowest bits only moves down

after_bit-shifted : (m state bit : ℕ) → after_bit (bit_xor (2 * m) state) bit ≡ bit_xor m (after_bit state bit)
unfolding after_bit
after_bit-shifted m state bit =
    let low : bit_xor (2 * m) state % 2 ≡ state % 2 =
    xor_mod (2 * m) state 1 ∙ ap (λ x. bit_xor x (state % 2)) (mul-mod_right 2 m) ∙ xor_zero_l (state % 2) in
    let half : 2 * m / 2 ≡ m = omega arith in
    let high : bit_xor (2 * m) state / 2 ≡ bit_xor m (state / 2) =
    xor_shr (2 * m) state 1 ∙ ap (λ x. bit_xor x (state / 2)) half in
    rw (low, high) (elim (state % 2 == bit) as (λ same. (if same then bit_xor m (state / 2) else bit_xor (bit_xor m (state / 2)) polynomial) ≡ bit_xor m (if same then state / 2 else bit_xor (state / 2) polynomial))
    [ true ↦ refl | false ↦ xor_assoc m (state / 2) polynomial ])

doubled : ℕ → ℕ → ℕ
doubled zero m = m
doubled (suc n) m = 2 * doubled n m

after_bits-shifted : (n m state b : ℕ) → after_bits (bit_xor (doubled n m) state) (low_bits n b) ≡ bit_xor m (after_bits state (low_bits n b))
unfolding after_bits low_bits doubled
after_bits-shifted zero m state b = refl
after_bits-shifted (suc n) m state b =
    ap (λ x. after_bits x (low_bits n (b / 2))) (after_bit-shifted (doubled n m) state (b % 2)) ∙ after_bits-shifted n m (after_bit state (b % 2)) (b / 2)

-- ---- the message's bits may be added to the register first

xor_swap : (a b c : ℕ) → bit_xor (bit_xor a b) c ≡ bit_xor (bit_xor a c) b
xor_swap a b c = xor_assoc a b c ∙ ap (bit_xor a) (xor_comm b c) ∙ sym (xor_assoc a c b)

one_bit : (x y state b : ℕ) → x < 2 → y < 2 →
    (if bit_xor x y == 0 then bit_xor state b else bit_xor (bit_xor state b) polynomial) ≡ bit_xor (if x == y then state else bit_xor state polynomial) b
one_bit zero zero state b xs ys = refl
one_bit zero (suc zero) state b xs ys = xor_swap state b polynomial
one_bit (suc zero) zero state b xs ys = xor_swap state b polynomial
one_bit (suc zero) (suc zero) state b xs ys = refl
one_bit (suc (suc x)) y state b xs ys = absurd (omega arith)
one_bit zero (suc (suc y)) state b xs ys = absurd (omega arith)
one_bit (suc zero) (suc (suc y)) state b xs ys = absurd (omega arith)

after_bit-added : (state b : ℕ) → after_bit (bit_xor state b) 0 ≡ bit_xor (after_bit state (b % 2)) (b / 2)
unfolding after_bit
after_bit-added state b = rw (xor_mod state b 1, xor_shr state b 1) (one_bit (state % 2) (b % 2) (state / 2) (b / 2) (omega arith) (omega arith))

halved : ℕ → ℕ → ℕ
halved zero b = b
halved (suc n) b = halved n (b / 2)

after_bits-added : (n state b : ℕ) → after_bits (bit_xor state b) (replicate n 0) ≡ bit_xor (after_bits state (low_bits n b)) (halved n b)
unfolding after_bits low_bits halved
after_bits-added zero state b = refl
after_bits-added (suc n) state b =
    ap (λ x. after_bits x (replicate n 0)) (after_bit-added state b) ∙ after_bits-added n (after_bit state (b % 2)) (b / 2)

-- ---- the register is linear

out : ℕ → ℕ
out r = if r == 0 then 0 else polynomial

bit_cases : (r : ℕ) → r < 2 → (r ≡ 0) ⊎ (r ≡ 1)
bit_cases zero lt = inl refl
bit_cases (suc zero) lt = inr refl
bit_cases (suc (suc r)) lt = absurd (omega arith)

after_bit-is : (s : ℕ) → after_bit s 0 ≡ bit_xor (s / 2) (out (s % 2))
unfolding after_bit out
after_bit-is s =
    elim (s % 2 == 0) as (λ same. (if same then s / 2 else bit_xor (s / 2) polynomial) ≡ bit_xor (s / 2) (if same then 0 else polynomial))
    [ true ↦ sym (xor_zero_r (s / 2)) | false ↦ refl ]

out-xor : (a b : ℕ) → a < 2 → b < 2 → out (bit_xor a b) ≡ bit_xor (out a) (out b)
unfolding out
out-xor a b la lb =
    elim (bit_cases a la) [
      | inl ea ↦ elim (bit_cases b lb) [ inl eb ↦ rw (ea, eb) refl | inr eb ↦ rw (ea, eb) refl ]
      | inr ea ↦ elim (bit_cases b lb) [ inl eb ↦ rw (ea, eb) refl | inr eb ↦ rw (ea, eb) refl ]
    ]

pub xor_exchange : (a b c d : ℕ) → bit_xor (bit_xor a b) (bit_xor c d) ≡ bit_xor (bit_xor a c) (bit_xor b d)
xor_exchange a b c d =
    xor_assoc a b (bit_xor c d)
    ∙ ap (bit_xor a) (sym (xor_assoc b c d) ∙ ap (λ x. bit_xor x d) (xor_comm b c) ∙ xor_assoc c b d)
    ∙ sym (xor_assoc a c (bit_xor b d))

after_bit-xor : (a b : ℕ) → after_bit (bit_xor a b) 0 ≡ bit_xor (after_bit a 0) (after_bit b 0)
after_bit-xor a b =
    after_bit-is (bit_xor a b)
    ∙ ap (λ x. bit_xor x (out (bit_xor a b % 2))) (xor_shr a b 1)
    ∙ ap (λ x. bit_xor (bit_xor (a / 2) (b / 2)) (out x)) (xor_mod a b 1)
    ∙ ap (bit_xor (bit_xor (a / 2) (b / 2))) (out-xor (a % 2) (b % 2) (omega arith) (omega arith))
    ∙ xor_exchange (a / 2) (b / 2) (out (a % 2)) (out (b % 2))
    ∙ sym (ap (λ x. bit_xor x (after_bit b 0)) (after_bit-is a) ∙ ap (bit_xor (bit_xor (a / 2) (out (a % 2)))) (after_bit-is b))

after_zeros-xor : (n a b : ℕ) → after_bits (bit_xor a b) (replicate n 0) ≡ bit_xor (after_bits a (replicate n 0)) (after_bits b (replicate n 0))
unfolding after_bits
after_zeros-xor zero a b = refl
after_zeros-xor (suc n) a b =
    ap (λ s. after_bits s (replicate n 0)) (after_bit-xor a b) ∙ after_zeros-xor n (after_bit a 0) (after_bit b 0)

-- ---- bytes of zeros

pub moved-xor : (n a b : ℕ) → moved n (bit_xor a b) ≡ bit_xor (moved n a) (moved n b)
unfolding moved
moved-xor zero a b = refl
moved-xor (suc n) a b = ap (moved n) (after_zeros-xor 8 a b) ∙ moved-xor n (after_bits a zeros) (after_bits b zeros)

pub moved_of_zero : (n : ℕ) → moved n 0 ≡ 0
unfolding moved after_bits after_bit
moved_of_zero zero = refl
moved_of_zero (suc n) = moved_of_zero n

low_byte : (a b : ℕ) → b < 256 → after_bits (bit_xor a b) zeros ≡ after_bits a (low_bits 8 b)
unfolding halved
low_byte a b lt =
    let none : halved 8 b ≡ 0 = omega arith in
    after_bits-added 8 a b ∙ ap (bit_xor (after_bits a (low_bits 8 b))) none ∙ xor_zero_r (after_bits a (low_bits 8 b))

split : (state : ℕ) → state ≡ bit_xor (doubled 8 (state / 256)) (state % 256)
unfolding doubled
split state =
    let whole : state / 256 * 2 ^ 8 + state % 256 ≡ state = omega arith in
    let high : state / 256 * 2 ^ 8 + 0 ≡ doubled 8 (state / 256) = omega arith in
    let low : 0 * 2 ^ 8 + state % 256 ≡ state % 256 = omega arith in
    let joined = xor_block 8 (state / 256) 0 0 (state % 256) (omega arith) (omega arith) in
    sym (rw (high, low, xor_zero_r (state / 256), xor_zero_l (state % 256), whole) at joined)

-- the lowest byte goes through the polynomial, and the others move down
lowest : (state : ℕ) → after_bits state zeros ≡ bit_xor (state / 256) (after_bits (state % 256) zeros)
unfolding low_bits
lowest state = ap (λ s. after_bits s (low_bits 8 0)) (split state) ∙ after_bits-shifted 8 (state / 256) (state % 256) 0

pub moved_split : (n state : ℕ) → moved (suc n) state ≡ bit_xor (moved n (state / 256)) (moved (suc n) (state % 256))
unfolding moved
moved_split n state = ap (moved n) (lowest state) ∙ moved-xor n (state / 256) (after_bits (state % 256) zeros)

-- ---- the tables

tables-are : map (λ k. map (moved (suc k)) (range_with_len 0 256)) (range_with_len 0 8) ≡ TABLES
unfolding moved after_bit after_bits
tables-are = refl

pub entry : (k a : ℕ) → k < 8 → a < 256 → get_or (get_or TABLES k []) a 0 ≡ moved (suc k) a
entry k a lk la =
    ap (λ t. get_or (get_or t k []) a 0) (sym tables-are)
    ∙ ap (λ t. get_or t a 0) (get_or-map-range_with_len (λ k. map (moved (suc k)) (range_with_len 0 256)) 0 8 k k [] lk (omega arith))
    ∙ get_or-map-range_with_len (moved (suc k)) 0 256 a a 0 la (omega arith)

-- one read of the first table moves the register on by a byte
pub by_table : (state b : ℕ) → b < 256 → bit_xor (state / 256) (moved 1 (bit_xor (state % 256) b)) ≡ after_bits state (low_bits 8 b)
unfolding moved
by_table state b lt =
    ap (bit_xor (state / 256)) (low_byte (state % 256) b lt)
    ∙ sym (after_bits-shifted 8 (state / 256) (state % 256) b) ∙ ap (λ x. after_bits x (low_bits 8 b)) (sym (split state))

-- ---- several bytes at once

-- the register after these bytes is that after as many zeros, and what each byte adds
unfoldable pub added : List ℕ → ℕ
added [] = 0
added (b ∷ bytes) = bit_xor (moved (suc (length bytes)) b) (added bytes)

pub in_parts : (state : ℕ) (bytes : List ℕ) → All (λ b. b < 256) bytes → crc32c state bytes ≡ bit_xor (moved (length bytes) state) (added bytes)
unfolding added moved
in_parts state [] h = crc32c_none state ∙ sym (xor_zero_r state)
in_parts state (b ∷ bytes) h =
    let n = length bytes in
    let lb = All-head (λ b. b < 256) b bytes h in
    crc32c_first state b bytes ∙ in_parts (after_bits state (low_bits 8 b)) bytes (All-tail (λ b. b < 256) b bytes h)
    ∙ ap (λ s. bit_xor (moved n s) (added bytes)) (sym (low_byte state b lb))
    ∙ ap (λ s. bit_xor s (added bytes)) (moved-xor (suc n) state b)
    ∙ xor_assoc (moved (suc n) state) (moved (suc n) b) (added bytes)

-- the register byte by byte
four_parts : (state : ℕ) → state < 2 ^ 32
    → moved 8 state ≡ bit_xor (bit_xor (moved 8 (state % 256)) (moved 7 (state / 256 % 256))) (bit_xor (moved 6 (state / 65536 % 256)) (moved 5 (state / 16777216 % 256)))
four_parts state lt =
    let a = moved 8 (state % 256) in
    let b = moved 7 (state / 256 % 256) in
    let c = moved 6 (state / 65536 % 256) in
    let d = moved 5 (state / 16777216 % 256) in
    let second : state / 256 / 256 ≡ state / 65536 = omega arith in
    let third : state / 65536 / 256 ≡ state / 16777216 = omega arith in
    let rest : state / 16777216 / 256 ≡ 0 = omega arith in
    let last : moved 5 (state / 16777216) ≡ d =
    moved_split 4 (state / 16777216) ∙ ap (λ s. bit_xor (moved 4 s) d) rest ∙ ap (λ s. bit_xor s d) (moved_of_zero 4) ∙ xor_zero_l d in
    moved_split 7 state ∙ xor_comm (moved 7 (state / 256)) a
    ∙ ap (bit_xor a)
    (moved_split 6 (state / 256) ∙ xor_comm (moved 6 (state / 256 / 256)) b
    ∙ ap (λ s. bit_xor b (moved 6 s)) second
    ∙ ap (bit_xor b) (moved_split 5 (state / 65536) ∙ xor_comm (moved 5 (state / 65536 / 256)) c ∙ ap (λ s. bit_xor c (moved 5 s)) third ∙ ap (bit_xor c) last))
    ∙ sym (xor_assoc a b (bit_xor c d))

-- eight bytes
pub eight : (state a b c d e f g h : ℕ) → state < 2 ^ 32 → a < 256 → b < 256 → c < 256 → d < 256 → e < 256 → f < 256 → g < 256 → h < 256
    → bit_xor
    (bit_xor (bit_xor (moved 8 (bit_xor (state % 256) a)) (moved 7 (bit_xor (state / 256 % 256) b)))
    (bit_xor (moved 6 (bit_xor (state / 65536 % 256) c)) (moved 5 (bit_xor (state / 16777216 % 256) d))))
    (bit_xor (bit_xor (moved 4 e) (moved 3 f)) (bit_xor (moved 2 g) (moved 1 h)))
    ≡ crc32c state (a ∷ b ∷ c ∷ d ∷ e ∷ f ∷ g ∷ h ∷ [])
unfolding added
eight state a b c d e f g h ls la lb lc ld le lf lg lh =
    let w = state % 256 in
    let x = state / 256 % 256 in
    let y = state / 65536 % 256 in
    let z = state / 16777216 % 256 in
    let all : All (λ b. b < 256) (a ∷ b ∷ c ∷ d ∷ e ∷ f ∷ g ∷ h ∷ []) =
    All-from_recursion (λ b. b < 256) (a ∷ b ∷ c ∷ d ∷ e ∷ f ∷ g ∷ h ∷ []) (la, (lb, (lc, (ld, (le, (lf, (lg, (lh, tt)))))))) in
    reads (bit_xor (bit_xor (moved 4 e) (moved 3 f)) (bit_xor (moved 2 g) (moved 1 h))) (moved-xor 8 w a) (moved-xor 7 x b) (moved-xor 6 y c) (moved-xor 5 z d)
    ∙ regrouped (moved 8 w) (moved 8 a) (moved 7 x) (moved 7 b) (moved 6 y) (moved 6 c) (moved 5 z) (moved 5 d) (moved 4 e) (moved 3 f) (moved 2 g) (moved 1 h)
    ∙ ap (λ s. bit_xor s (added (a ∷ b ∷ c ∷ d ∷ e ∷ f ∷ g ∷ h ∷ []))) (sym (four_parts state ls))
    ∙ sym (in_parts state (a ∷ b ∷ c ∷ d ∷ e ∷ f ∷ g ∷ h ∷ []) all)
  where
    reads : {p p' q q' r r' s s' : ℕ} (t : ℕ) → p ≡ p' → q ≡ q' → r ≡ r' → s ≡ s'
        → bit_xor (bit_xor (bit_xor p q) (bit_xor r s)) t ≡ bit_xor (bit_xor (bit_xor p' q') (bit_xor r' s')) t
    reads t a b c d = cc (a, b, c, d)

    regrouped : (w a x b y c z d e f g h : ℕ)
        → bit_xor (bit_xor (bit_xor (bit_xor w a) (bit_xor x b)) (bit_xor (bit_xor y c) (bit_xor z d))) (bit_xor (bit_xor e f) (bit_xor g h))
        ≡ bit_xor (bit_xor (bit_xor w x) (bit_xor y z)) (bit_xor a (bit_xor b (bit_xor c (bit_xor d (bit_xor e (bit_xor f (bit_xor g (bit_xor h 0))))))))
    regrouped w a x b y c z d e f g h =
        ap (λ v. bit_xor v (bit_xor (bit_xor e f) (bit_xor g h)))
        (ap (λ v. bit_xor v (bit_xor (bit_xor y c) (bit_xor z d))) (xor_exchange w a x b)
        ∙ ap (bit_xor (bit_xor (bit_xor w x) (bit_xor a b))) (xor_exchange y c z d)
        ∙ xor_exchange (bit_xor w x) (bit_xor a b) (bit_xor y z) (bit_xor c d))
        ∙ xor_assoc (bit_xor (bit_xor w x) (bit_xor y z)) (bit_xor (bit_xor a b) (bit_xor c d)) (bit_xor (bit_xor e f) (bit_xor g h))
        ∙ ap (bit_xor (bit_xor (bit_xor w x) (bit_xor y z)))
        (xor_assoc (bit_xor a b) (bit_xor c d) (bit_xor (bit_xor e f) (bit_xor g h))
        ∙ xor_assoc a b (bit_xor (bit_xor c d) (bit_xor (bit_xor e f) (bit_xor g h)))
        ∙ ap (λ v. bit_xor a (bit_xor b v))
        (xor_assoc c d (bit_xor (bit_xor e f) (bit_xor g h))
        ∙ ap (λ v. bit_xor c (bit_xor d v)) (xor_assoc e f (bit_xor g h) ∙ ap (λ v. bit_xor e (bit_xor f (bit_xor g v))) (sym (xor_zero_r h)))))
