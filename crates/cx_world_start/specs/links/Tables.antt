-- The links of a run as a table: numbered from 1, in the order in which they opened.
use Rattle.std.specs.Prelude.{ℕ, suc, ◌≡◌, ◌<◌, List, [], ◌∷◌, length, take, Option, Some, None}
use Rattle.cx_words.specs.declared.choices.Side.{Side}
use Rattle.cx_base.specs.declared.nodes.NodeName.{NodeName}
use Rattle.cx_steps.specs.declared.effects.Piece.{Piece}
use Rattle.cx_run.specs.Deliveries.{stay}
use Rattle.cx_run.specs.Wires.{Wire, pieces_from, wire_of, with_pieces, with_wire}
use Rattle.cx_run.specs.Worlds.{sends_all, shuts_all}

-- the numbers go up by one, from this one on
abbrev pub AreNumbered : ℕ → List Wire → Type 0
AreNumbered first [] = Unit {0}
AreNumbered first (wire ∷ wires) = (wire.number ≡ first) × AreNumbered (suc first) wires

-- the link that was found is changed
abbrev pub changed_in : (Wire → Wire) → List Wire → Option Wire → List Wire
changed_in change wires None = wires
changed_in change wires (Some wire) = with_wire wires (change wire)

-- the link of this number is changed, where there is one
abbrev pub with_changed : (Wire → Wire) → ℕ → List Wire → List Wire
with_changed change number wires = changed_in change wires (wire_of number wires)

-- the oldest of the pieces under way from a side of a link is lost, if there is one
abbrev pub lost_from : List Wire → Wire → Side → List (List ℕ) → List Wire
lost_from wires wire side [] = wires
lost_from wires wire side (piece ∷ pieces) = with_wire wires (with_pieces wire side pieces)

abbrev pub lost_on : Side → List Wire → Option Wire → List Wire
lost_on side wires None = wires
lost_on side wires (Some wire) = lost_from wires wire side (pieces_from wire side)

-- the oldest of them, or so many first bytes of it, is no longer under way
abbrev pub taken_from : List Wire → Wire → Side → Option ℕ → List (List ℕ) → List Wire
taken_from wires wire side n [] = wires
taken_from wires wire side n (piece ∷ pieces) = with_wire wires (with_pieces wire side (stay n piece pieces))

abbrev pub taken_on : Side → Option ℕ → List Wire → Option Wire → List Wire
taken_on side n wires None = wires
taken_on side n wires (Some wire) = taken_from wires wire side n (pieces_from wire side)

-- the first ones of these pieces were sent, and not all
pub record IsSentInPart (who : NodeName) (old : List Wire) (pieces : List Piece) (new : List Wire) : Type 0 where
  pub count : ℕ
  pub within : count < length pieces
  pub sent : new ≡ sends_all who old (take count pieces)

-- the first ones of these links were shut, and not all
pub record IsShutInPart (who : NodeName) (old : List Wire) (numbers : List ℕ) (new : List Wire) : Type 0 where
  pub count : ℕ
  pub within : count < length numbers
  pub shut : new ≡ shuts_all who old (take count numbers)
