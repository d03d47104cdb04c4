-- The parts that travel ("msgr2 protocol", secure mode): each is sealed by AES-128-GCM under the key of the connection and a nonce of its
-- own, which holds a counter that rises by one a part.
use Rattle.std.specs.Prelude.{ℕ, ◌≡◌, ◌+◌, ◌-◌, ◌<◌, ◌==◌, List, [], ◌∷◌, ◌++◌, length, slice_index, take, drop, Option, Some, None, if◌then◌else◌}
use Rattle.std.specs.Int.{w64, to_le_bytes}
use Rattle.std.specs.Str.{bytes_eq}
use Rattle.cx_gcm.specs.Gcm.{gctr, nonce_block, raised, tag_of}

-- the four fixed bytes of a nonce
pub record IsFixed (fixed : List ℕ) : Type 0 where
  pub len : length fixed ≡ 4
  pub bytes : (i : ℕ) → slice_index fixed i < 256

-- the nonce of the part with this counter: these four bytes, and the counter in eight
unfoldable pub nonce_at : List ℕ → ℕ → List ℕ
nonce_at fixed counter = fixed ++ to_le_bytes w64 counter

-- the cipher text of a plain text, and the plain text of a cipher text (SP 800-38D, 7.1)
unfoldable pub ciphered : List ℕ → List ℕ → List ℕ → List ℕ
ciphered key nonce text = gctr key (raised (nonce_block nonce)) text

-- a part: the cipher text, and its tag of 16 bytes
unfoldable pub part : List ℕ → List ℕ → List ℕ → List ℕ
part key nonce plain = ciphered key nonce plain ++ tag_of key nonce (ciphered key nonce plain)

-- plain texts, each sealed under the counter behind the one before it
unfoldable pub sealed_parts : List ℕ → List ℕ → ℕ → List (List ℕ) → List ℕ
sealed_parts key fixed counter [] = []
sealed_parts key fixed counter (p ∷ ps) = part key (nonce_at fixed counter) p ++ sealed_parts key fixed (counter + 1) ps

-- the plain text of a cipher text with this tag; nothing where the tag is wrong
unfoldable pub opened_text : List ℕ → List ℕ → List ℕ → List ℕ → Option (List ℕ)
opened_text key nonce cipher tag = if bytes_eq tag (tag_of key nonce cipher) then Some (ciphered key nonce cipher) else None

-- the plain text of a part, which has n bytes
unfoldable pub opened : List ℕ → List ℕ → ℕ → List ℕ → Option (List ℕ)
opened key nonce n bytes = opened_text key nonce (take n bytes) (drop n bytes)

-- the same, where there may be no part
unfoldable pub opened_some : List ℕ → List ℕ → List ℕ → Option (List ℕ)
opened_some key nonce bytes = if length bytes == 0 then Some [] else opened key nonce (length bytes - 16) bytes
