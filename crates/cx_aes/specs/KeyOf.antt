-- The key that a schedule was made from.
use Rattle.std.specs.Prelude.{ℕ, List, [], slice_index_or}
use Rattle.cx_aes.specs.declared.schedule.Schedule.{Schedule}

-- the first of the round keys, which decryption adds last, as it is
abbrev pub key_of : Schedule → List ℕ
key_of s = slice_index_or s.backward 0 []
