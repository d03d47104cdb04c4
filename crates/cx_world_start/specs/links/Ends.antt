-- How an end of a link keeps what it sent: each piece once, and how much of them came or was lost.
use Rattle.std.specs.Prelude.{ℕ, ◌≡◌, ◌≤◌, Bool, false, List, [], ◌∷◌, ◌++◌, drop, length, Option, Some, None, if◌then◌else◌}
use Rattle.cx_run.specs.Deliveries.{first_of, stay}
use Rattle.cx_run.specs.Wires.{End, Wire}

-- these pieces without so many first bytes of the first one
abbrev pub without_bytes : ℕ → List (List ℕ) → List (List ℕ)
without_bytes taken [] = []
without_bytes taken (piece ∷ pieces) = drop taken piece ∷ pieces

-- an end that sent these pieces, of which so many came or were lost, and so many first bytes of the next one
abbrev pub end_with : Bool → List (List ℕ) → ℕ → ℕ → End
end_with lives ever came taken = record { lives = lives; under_way = without_bytes taken (drop came ever); ever = ever }

-- no more bytes came of the first of these pieces than it has
abbrev pub IsWithin : ℕ → List (List ℕ) → Type 0
IsWithin taken [] = taken ≡ 0
IsWithin taken (piece ∷ pieces) = taken ≤ length piece

pub record IsEnd (ever : List (List ℕ)) (came taken : ℕ) : Type 0 where
  pub came_in : came ≤ length ever
  pub taken_in : IsWithin taken (drop came ever)

-- ---- what becomes of an end

-- it sent a piece, which reaches the other end or is lost
abbrev pub sent_by : Bool → End → List ℕ → End
sent_by reaches end piece = record end {
  under_way = (if reaches then end.under_way ++ piece ∷ [] else end.under_way);
  ever = end.ever ++ piece ∷ [];
}

-- what arrives of the oldest of these pieces, if there is one
abbrev pub arriving : Option ℕ → List (List ℕ) → Option (List ℕ)
arriving n [] = None
arriving n (piece ∷ pieces) = Some (first_of n piece)

-- the pieces that then stay under way
abbrev pub staying : Option ℕ → List (List ℕ) → List (List ℕ)
staying n [] = []
staying n (piece ∷ pieces) = stay n piece pieces

-- ---- a link

-- nothing is under way to an end that is gone
pub record IsSpent (wire : Wire) : Type 0 where
  pub connector : wire.acceptor.lives ≡ false → wire.connector.under_way ≡ []
  pub acceptor : wire.connector.lives ≡ false → wire.acceptor.under_way ≡ []
