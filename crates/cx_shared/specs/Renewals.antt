-- The rule that writer and readers keep at each of their steps, and what a step makes of what its thread knew.
use Rattle.std.specs.Prelude.{◌≡◌, ℕ, List, [], ◌∷◌, ◌++◌}
use mathlib.Core.Option.{some}
use mathlib.Core.List.{IsPrefix}
use lib.ListN.{get_elem?}
use Rattle.cx_rotate.specs.declared.views.View.{View}
use Rattle.cx_shared.specs.declared.looks.Look.{Look}
use Rattle.cx_shared.specs.Looks.{IsLookOf}

-- each thread knows a front of these renewals
abbrev pub KnowFronts : List (List View) → List View → Type 0
KnowFronts known renewals = (seat : ℕ) (views : List View) → get_elem? known seat ≡ some views → IsPrefix views renewals

-- What is looked at is the look of a list of renewals, of which each thread knows a front.
abbrev pub IsRenewed : Look → List (List View) → Type 0
IsRenewed look known = (renewals : List View) × IsLookOf look renewals × KnowFronts known renewals

-- Who looks knows from then on the renewals that it saw, and they begin with those that it knew.
abbrev pub IsSeen : List View → Look → Look → List View → Type 0
IsSeen knew _ look knows = IsPrefix knew knows × IsLookOf look knows

-- Who publishes a look knows from then on one view more, which is that look's.
abbrev pub IsPublished : List View → Look → Look → List View → Type 0
IsPublished knew _ look knows = knows ≡ knew ++ look.view ∷ []
