-- What is lent to the program, at a moment.
use Rattle.std.specs.Prelude.{ℕ, List, Option}

-- its input and its output: what the one has left and the other took, where they tell it, and how many faults each has counted
pub record Streams (I O : Type 0) : Type 0 where
  pub input : I
  pub left : Option (List ℕ)
  pub faults : ℕ
  pub out : O
  pub taken : Option (List ℕ)
  pub misses : ℕ

abbrev pub streams : {I O : Type 0} → I → Option (List ℕ) → ℕ → O → Option (List ℕ) → ℕ → Streams I O
streams input left faults out taken misses = record {
  input = input;
  left = left;
  faults = faults;
  out = out;
  taken = taken;
  misses = misses;
}

-- what a node runs over
pub record Lent (K L C D : Type 0) : Type 0 where
  pub keeper : K
  pub links : L
  pub clock : C
  pub dice : D

abbrev pub lent : {K L C D : Type 0} → K → L → C → D → Lent K L C D
lent keeper links clock dice = record { keeper = keeper; links = links; clock = clock; dice = dice }
