-- What a look says.
use Rattle.std.specs.Prelude.{◌≡◌, List, length}
use Rattle.cx_rotate.specs.declared.views.View.{View}
use Rattle.cx_shared.specs.declared.looks.Look.{Look}
use Rattle.cx_shared.specs.Views.{shown}

-- The look is that of these renewals: it shows the last of them, and counts them.
abbrev pub IsLookOf : Look → List View → Type 0
IsLookOf look views = (look.view ≡ shown views) × (look.count ≡ length views)
