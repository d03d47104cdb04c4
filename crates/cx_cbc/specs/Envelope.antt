-- The sealed envelope of a content. The layout is this project's own profile (docs/formats.md), with the magic number and the
-- initial vector of Ceph; the mode is SP 800-38A's and the padding PKCS#7. Only sealing is defined.
use Rattle.std.specs.Prelude.{◌≡◌, ℕ, ◌-◌, ◌%◌, ◌<◌, ◌≤◌, List, ◌∷◌, ◌++◌, All, length, replicate, codes}
use Rattle.std.specs.Int.{w64, to_le_bytes}
use Rattle.std.specs.List.{concat}
use Rattle.cx_aes.specs.Cipher.{IsBlock}
use Rattle.cx_cbc.specs.Chain.{blocks_of, cbc}

-- version 1, and the magic number as 8 bytes, the lowest first
abbrev pub head : List ℕ
head = 1 ∷ to_le_bytes w64 0xff009cad8826aa55

-- the fixed initial vector
abbrev pub initial_vector : List ℕ
initial_vector = codes "cephsageyudagreg"

-- PKCS#7 (RFC 5652, 6.3): as many bytes as are missing to a multiple of 16, at least one, and each byte says how many
unfoldable pub padding : ℕ → List ℕ
padding n = let missing = 16 - n % 16 in replicate missing missing

-- bytes and their padding
unfoldable pub padded : List ℕ → List ℕ
padded bytes = bytes ++ padding (length bytes)

-- the envelope of a content, padded
unfoldable pub enveloped : List ℕ → List ℕ
enveloped content = padded (head ++ content)

-- the sealed envelope of a content
unfoldable pub sealed : List ℕ → List ℕ → List ℕ
sealed key content = concat (cbc key initial_vector (blocks_of (enveloped content)))

-- these bytes open to the content: it has at most 1,048,576 bytes, and seals to them
pub record Opens (key bytes content : List ℕ) : Type 0 where
  pub size : length content ≤ 1048576
  pub octets : All (λ b. b < 256) content
  pub is_sealed : bytes ≡ sealed key content

-- at most one content opens
abbrev pub OpensOne : Type 0
OpensOne = (key bytes first second : List ℕ) → IsBlock key → Opens key bytes first → Opens key bytes second → first ≡ second
