-- Cipher block chaining with AES-128 on lists of blocks: SP 800-38A, section 6.2.
use Rattle.std.specs.Prelude.{ℕ, ◌/◌, List, [], ◌∷◌, length}
use Rattle.std.specs.Simd.{first_chunks}
use Rattle.cx_aes.specs.Cipher.{add, aes}
use Rattle.cx_aes.specs.Inverse.{inverse_aes}

-- the whole blocks of 16 bytes, from the front on
abbrev pub blocks_of : List ℕ → List (List ℕ)
blocks_of bytes = first_chunks 16 (length bytes / 16) bytes

-- the cipher texts of the blocks: each block is added to the cipher text before it, the first to the
-- initial vector, and encrypted
unfoldable pub cbc : List ℕ → List ℕ → List (List ℕ) → List (List ℕ)
cbc key before [] = []
cbc key before (block ∷ blocks) = let sealed = aes key (add block before) in sealed ∷ cbc key sealed blocks

-- what the loop that decrypts computes; no public clause speaks of it
unfoldable pub uncbc : List ℕ → List ℕ → List (List ℕ) → List (List ℕ)
uncbc key before [] = []
uncbc key before (sealed ∷ blocks) = add (inverse_aes key sealed) before ∷ uncbc key sealed blocks
