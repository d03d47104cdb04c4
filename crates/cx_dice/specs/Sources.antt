-- The bytes of a draw, as it is kept.
use Rattle.std.specs.Prelude.{ℕ, ◌≡◌, List}
use Rattle.cx_dice.specs.Draws.{part}
use Rattle.cx_dice.specs.Rolls.{seed_draw}
use Rattle.cx_dice.specs.declared.draw.Source.{Source}
use Rattle.cx_dice.specs.declared.draw.Source.TheVariants.{Given, Numbered, AtHand}

-- the bytes that were given, or those of a seed's draw of this number
abbrev pub bytes_of : Source → List ℕ
bytes_of (Given bytes) = bytes.value
bytes_of (Numbered seed number) = seed_draw seed number
bytes_of (AtHand seed number first) = seed_draw seed number

-- what is at hand are the first bytes of that draw
abbrev pub IsKept : Source → Type 0
IsKept (Given bytes) = Unit {0}
IsKept (Numbered seed number) = Unit {0}
IsKept (AtHand seed number first) = first.value ≡ part 0 256 (seed_draw seed number)
