-- The sum over a concatenation, and the sum byte by byte.
use Rattle.std.proofs.Common.{◌≡◌, ℕ, suc, ◌+◌, ◌<◌, ◌≤◌, List, [], ◌∷◌, ◌++◌, length, drop, length-drop, get_or, refl, ap, sym, ◌∙◌, append_assoc, drop-cons, arith}
use Rattle.std.proofs.lemmas.List.{nil_from_length}
use Rattle.cx_digest.specs.Checksum.{after_bit, after_bits, low_bits, message_bits, crc32c, GoesOn}

after_bits-append : (state : ℕ) (first second : List ℕ) → after_bits state (first ++ second) ≡ after_bits (after_bits state first) second
unfolding after_bits
after_bits-append state [] second = refl
after_bits-append state (bit ∷ first) second = after_bits-append (after_bit state bit) first second

message_bits-append : (first second : List ℕ) → message_bits (first ++ second) ≡ message_bits first ++ message_bits second
unfolding message_bits
message_bits-append [] second = refl
message_bits-append (b ∷ first) second =
    ap (λ bits. low_bits 8 b ++ bits) (message_bits-append first second) ∙ sym (append_assoc (low_bits 8 b) (message_bits first) (message_bits second))

pub goes_on : GoesOn
unfolding crc32c
goes_on seed first second = ap (after_bits seed) (message_bits-append first second) ∙ after_bits-append seed (message_bits first) (message_bits second)

pub crc32c_none : (state : ℕ) → crc32c state [] ≡ state
unfolding crc32c message_bits after_bits
crc32c_none state = refl

pub crc32c_first : (state b : ℕ) (bytes : List ℕ) → crc32c state (b ∷ bytes) ≡ crc32c (after_bits state (low_bits 8 b)) bytes
unfolding crc32c message_bits
crc32c_first state b bytes = after_bits-append state (low_bits 8 b) (message_bits bytes)

-- one more byte of the bytes
pub crc32c_more : (state i : ℕ) (bytes : List ℕ) → i < length bytes →
    crc32c state (drop i bytes) ≡ crc32c (after_bits state (low_bits 8 (get_or bytes i 0))) (drop (i + 1) bytes)
crc32c_more state i bytes lt =
    let e : i + 1 ≡ suc i = omega arith in
    rw (e, drop-cons bytes i 0) (crc32c_first state (get_or bytes i 0) (drop (suc i) bytes))

-- no byte is left
pub crc32c_all : (state i : ℕ) (bytes : List ℕ) → length bytes ≤ i → crc32c state (drop i bytes) ≡ state
crc32c_all state i bytes le = ap (crc32c state) (nil_from_length (drop i bytes) (omega (arith, length-drop i bytes))) ∙ crc32c_none state
