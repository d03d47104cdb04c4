-- Galois/Counter Mode with AES-128, a nonce of 96 bits, a tag of 128 bits and no additional data:
-- SP 800-38D, sections 6 and 7.
use Rattle.std.specs.Prelude.{◌≡◌, ℕ, zero, suc, ◌<◌, ◌+◌, ◌-◌, ◌*◌, ◌/◌, ◌%◌, ◌^◌, List, [], ◌∷◌, ◌++◌, All, bit_xor, drop, length, replicate, take}
use Rattle.std.specs.Int.{w32, w64, from_be_bytes, to_be_bytes}
use Rattle.std.specs.List.{flat_map, range_with_len}
use Rattle.cx_aes.specs.Cipher.{add, aes}
use Rattle.cx_gcm.specs.Blocks.{number, product, spelled}

-- GHASH of the first n blocks (6.4)
unfoldable pub ghash : ℕ → List ℕ → ℕ → ℕ
ghash h bytes zero = 0
ghash h bytes (suc n) = product (bit_xor (ghash h bytes n) (number (take 16 (drop (16 * n) bytes)))) h

-- a counter block whose last 32 bits are raised by one, modulo 2^32 (6.2)
unfoldable pub raised : List ℕ → List ℕ
raised b = take 12 b ++ to_be_bytes w32 ((from_be_bytes w32 (drop 12 b) + 1) % 2 ^ 32)

-- the counter block that comes n steps after a first one (6.5)
unfoldable pub counter_block : List ℕ → ℕ → List ℕ
counter_block first zero = first
counter_block first (suc n) = raised (counter_block first n)

-- the text, with the cipher texts of the counter blocks added to it (6.5, GCTR)
unfoldable pub gctr : List ℕ → List ℕ → List ℕ → List ℕ
gctr k first text =
    add text (flat_map (λ i. aes k (counter_block first i)) (range_with_len 0 ((length text + 15) / 16)))

-- the counter block before the first, J0 (7.1, step 2)
unfoldable pub nonce_block : List ℕ → List ℕ
nonce_block nonce = nonce ++ 0 ∷ 0 ∷ 0 ∷ 1 ∷ []

-- the counter block of a nonce and a count, as the code makes it; no public clause speaks of it
unfoldable pub counted : List ℕ → ℕ → List ℕ
counted nonce n = nonce ++ to_be_bytes w32 n

-- the hash subkey, H (7.1, step 1)
unfoldable pub subkey : List ℕ → ℕ
subkey k = number (aes k (replicate 16 0))

-- what is hashed: the cipher text filled with zeros to whole blocks, and a block of the lengths in
-- bits, of the additional data, which is none, and of the cipher text (7.1, steps 4 and 5)
unfoldable pub hashed : List ℕ → List ℕ
hashed cipher =
    (cipher ++ replicate ((16 - length cipher % 16) % 16) 0) ++ (to_be_bytes w64 0 ++ to_be_bytes w64 (8 * length cipher))

-- the tag of a cipher text (7.1, steps 5 and 6)
unfoldable pub tag_of : List ℕ → List ℕ → List ℕ → List ℕ
tag_of k nonce cipher =
    gctr k (nonce_block nonce) (spelled (ghash (subkey k) (hashed cipher) (length (hashed cipher) / 16)))

-- 96 bits
pub record IsNonce (nonce : List ℕ) : Type 0 where
  pub len : length nonce ≡ 12
  pub bytes : All (λ b. b < 256) nonce

-- under the key and the nonce the plain text is sealed to this cipher text and this tag (7.1)
pub record GcmSealed (k nonce plain cipher t : List ℕ) : Type 0 where
  pub is_ciphered : cipher ≡ gctr k (raised (nonce_block nonce)) plain
  pub is_tag : t ≡ tag_of k nonce cipher
