-- Links on which nothing is to come, and the numbers of those of which that isn't known.
use Rattle.std.specs.Prelude.{ℕ, ◌≡◌, ◌<◌, ◌==◌, ◌&&◌, not, Bool, false, List, [], length, IfSome}
use Rattle.std.specs.BTreeSet.{contains}
use Rattle.std.specs.Ordering.{nat_cmp}
use Rattle.cx_words.specs.declared.choices.Side.{Side}
use Rattle.cx_run.specs.Wires.{Wire, owes_gone, pieces_from, wire_of}
use Rattle.cx_world_start.specs.links.Tables.{AreNumbered}
use Rattle.cx_world_start.specs.declared.busy_links.Busy.{Busy}

-- nothing is under way on a link, and no end is still to be told that the other one is gone
pub record IsCalm (wire : Wire) : Type 0 where
  pub sent : (side : Side) → pieces_from wire side ≡ []
  pub told : (side : Side) → owes_gone wire side ≡ false

-- the link of a number is calm, where there is one
abbrev pub IsCalmAt : ℕ → List Wire → Type 0
IsCalmAt number wires = IfSome (wire_of number wires) IsCalm

-- the links behind this number and below that one are calm
abbrev pub AreCalm : ℕ → ℕ → List Wire → Type 0
AreCalm after below wires = (n : ℕ) → after < n → n < below → IsCalmAt n wires

-- nothing is under way from a side, and the other end needn't be told that it is gone
abbrev pub is_quiet : Wire → Side → Bool
is_quiet wire side = (length (pieces_from wire side) == 0) && not (owes_gone wire side)

-- whether a number is among these
abbrev pub has : ℕ → Busy → Bool
has number busy = contains nat_cmp busy.numbers number

-- each link that isn't calm is among these numbers
abbrev pub HoldsBusy : Busy → List Wire → Type 0
HoldsBusy busy wires = (n : ℕ) → has n busy ≡ false → IsCalmAt n wires

-- the links of a table, and the numbers that it keeps of those that may not be calm
pub record IsTable (busy : Busy) (wires : List Wire) : Type 0 where
  pub numbered : AreNumbered 1 wires
  pub others : HoldsBusy busy wires
