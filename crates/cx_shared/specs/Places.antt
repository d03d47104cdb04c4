-- What stands at a place of the table that writer and readers share.
use Rattle.std.specs.Prelude.{◌≡◌, List, [], Option}
use Rattle.atomic_table.specs.declared.shared.Seat.{Seat}
use Rattle.left_right.specs.Sides.{view}
use Rattle.left_right.specs.declared.part.Part.{Part}
use Rattle.left_right.specs.declared.board.Doing.{Doing}
use Rattle.cx_rotate.specs.declared.views.View.{View}
use Rattle.cx_shared.specs.declared.looks.Look.{Look}
use Rattle.cx_shared.specs.Looks.{IsLookOf}

-- the renewals that the writer or the reader at this place knows
abbrev pub known_at : Seat (Option (Part Look)) (Doing Look (List View)) → List View
known_at place = view place

-- Between two calls of the writer readers are shown the look of all that it published, and nothing waits to be published.
abbrev pub IsSettled : Look → Seat (Option (Part Look)) (Doing Look (List View)) → List Look → Type 0
IsSettled look place waiting = IsLookOf look (known_at place) × (waiting ≡ [])
