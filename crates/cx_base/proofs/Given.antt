-- What a source in memory gives is the front of what it has left.
use Rattle.std.proofs.Common.{◌≡◌, ℕ, ◌+◌, List, length, take, drop, min, Some, arith, refl}
use Rattle.std.proofs.lemmas.List.{nil_from_length, drop-drop}
use Rattle.cx_base.specs.Streams.{Gives}

pub gives_front : (bytes left into : List ℕ) (place n room : ℕ) → left ≡ drop place bytes → length into ≡ room → n ≡ min (length left) room → take n into ≡ take n left → Gives (Some left) (Some (drop (place + n) bytes)) into n
gives_front bytes left into place n room is_left is_room is_n front = (
  omega arith,
  front,
  rw (is_left, drop-drop) refl,
  λ has_room none. nil_from_length left (omega arith),
)
