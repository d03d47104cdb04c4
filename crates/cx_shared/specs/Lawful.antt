-- What the rule says of what threads know.
use Rattle.std.specs.Prelude.{◌≡◌, ◌⊎◌, ◌≤◌, ℕ, List, length}
use mathlib.Core.Option.{some}
use mathlib.Core.List.{IsPrefix}
use lib.ListN.{get_elem?}
use Rattle.cx_rotate.specs.declared.views.View.{View}
use Rattle.cx_shared.specs.declared.looks.Look.{Look}
use Rattle.cx_shared.specs.Renewals.{IsRenewed}
use Rattle.cx_shared.specs.Views.{shown}

-- Of what two threads know, one list begins with the other.
abbrev pub KnowsOneList : Type 0
KnowsOneList = (look : Look) (known : List (List View)) (seat other : ℕ) (views others : List View)
    → IsRenewed look known → get_elem? known seat ≡ some views → get_elem? known other ≡ some others
    → IsPrefix views others ⊎ IsPrefix others views

-- No thread knows more renewals than are counted, and who knows as many knows the view that is looked at.
abbrev pub KnowsItsLook : Type 0
KnowsItsLook = (look : Look) (known : List (List View)) (seat : ℕ) (views : List View)
    → IsRenewed look known → get_elem? known seat ≡ some views
    → (length views ≤ look.count) × (look.count ≡ length views → look.view ≡ shown views)
