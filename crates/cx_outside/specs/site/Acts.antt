-- All that a node does outside of itself and all that comes of it, in one order.
use Rattle.std.specs.Prelude.{ℕ, Bool, true, false, List, [], ◌∷◌, Option, Result, Ok, Err}
use Rattle.cx_keep.specs.declared.commits.CommitRefusal.{CommitRefusal}
use Rattle.cx_keep.specs.declared.commits.CommitRefusal.TheVariants.{KeepFault, OutOfMemory}
use Rattle.cx_outside.specs.linking.Acts.{LinkAct}
use Rattle.cx_rotate.specs.declared.states.KeptState.{KeptState}

pub data Act : Type 0 where
  -- what it does on its links, or what comes on them
  Linked : LinkAct → Act
  -- it read the clock
  Read : ℕ → Act
  -- it rolled the dice, for this draw; none where that failed
  Rolled : Option (List ℕ) → Act
  -- it saved a state, or failed to
  Saved : KeptState → Bool → Act

-- the acts of a save by its answer: none where memory was wanting before it
abbrev pub saving : {X : Type 0} → KeptState → Result X CommitRefusal → List Act
saving state (Ok x) = Saved state true ∷ []
saving state (Err KeepFault) = Saved state false ∷ []
saving state (Err OutOfMemory) = []
