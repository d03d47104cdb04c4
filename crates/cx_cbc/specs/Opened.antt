-- The content that sealed bytes open to, as a function. What they decrypt to proposes it, and it counts where it seals to the same bytes.
use Rattle.std.specs.Prelude.{ℕ, ◌-◌, ◌&&◌, List, length, take, drop, slice_index, nat_lt, nat_le, Option, Some, None, if◌then◌else◌}
use Rattle.std.specs.List.{concat, list_all}
use Rattle.std.specs.Str.{bytes_eq}
use Rattle.cx_cbc.specs.Chain.{blocks_of, uncbc}
use Rattle.cx_cbc.specs.Envelope.{initial_vector, sealed}

-- an envelope without its head of 9 bytes and its padding, of which the last byte tells the length
unfoldable pub stripped : List ℕ → List ℕ
stripped plain = drop 9 (take (length plain - slice_index plain (length plain - 1)) plain)

-- a content of at most 1,048,576 bytes that seals to these, or none
unfoldable pub if_sealed : List ℕ → List ℕ → List ℕ → Option (List ℕ)
if_sealed key bytes content =
    if nat_le (length content) 1048576 && (list_all (λ b. nat_lt b 256) content && bytes_eq bytes (sealed key content)) then Some content else None

unfoldable pub opened : List ℕ → List ℕ → Option (List ℕ)
opened key bytes = if_sealed key bytes (stripped (concat (uncbc key initial_vector (blocks_of bytes))))
