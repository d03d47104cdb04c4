-- HMAC with SHA-256 as a function on lists of bytes: RFC 2104, section 2, for keys of at most one block
-- (64 bytes). `sha256` is the function on lists that `sha2` states.
use Rattle.std.specs.Prelude.{◌≡◌, ℕ, ◌-◌, List, ◌++◌, length, map, replicate, bit_xor}
use Rattle.sha2.specs.Sha256.{sha256}
use Rattle.sha2.specs.Hashers.{Holds256}
use Rattle.cx_digest.specs.declared.message_code.Mac.{Mac}

-- the key, filled with zeros to a block of 64 bytes, with each byte added to the pad
unfoldable pub masked : ℕ → List ℕ → List ℕ
masked pad key = map (bit_xor pad) (key ++ replicate (64 - length key) 0)

-- the code of a text under a key: the inner pad is 0x36, the outer 0x5c
unfoldable pub hmac : List ℕ → List ℕ → List ℕ
hmac key text = sha256 (masked 0x5c key ++ sha256 (masked 0x36 key ++ text))

-- this code under way has the key and has taken the text
pub record Takes (mac : Mac) (key text : List ℕ) : Type 0 where
  pub inner : Holds256 mac.inner (masked 0x36 key ++ text)
  pub outer : mac.outer ≡ masked 0x5c key
