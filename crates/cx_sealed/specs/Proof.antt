-- The proof of a login (docs/formats.md, after "Cephx": the client proves that it knows its key). The two challenges are sealed
-- as one content of 16 bytes, with no kind byte; behind the length of what was sealed, its first four numbers are added up.
use Rattle.std.specs.Prelude.{ℕ, ◌*◌, List, ◌++◌, take, drop, bit_xor}
use Rattle.std.specs.Int.{w32, w64, to_le_bytes, from_le_bytes}
use Rattle.cx_cbc.specs.Envelope.{sealed}

-- the number in the eight bytes at this place, counted in eights
abbrev pub number_at : ℕ → List ℕ → ℕ
number_at place bytes = from_le_bytes w64 (take 8 (drop (8 * place) bytes))

abbrev pub first_four_added : List ℕ → ℕ
first_four_added bytes = bit_xor (bit_xor (bit_xor (number_at 0 bytes) (number_at 1 bytes)) (number_at 2 bytes)) (number_at 3 bytes)

abbrev pub login_proof : List ℕ → ℕ → ℕ → ℕ
login_proof key server_challenge client_challenge =
    first_four_added (to_le_bytes w32 32 ++ sealed key (to_le_bytes w64 server_challenge ++ to_le_bytes w64 client_challenge))
