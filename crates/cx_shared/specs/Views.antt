-- Lists of views, in the order in which they were published.
use Rattle.std.specs.Prelude.{List, [], ◌∷◌, length, None, if◌then◌else◌, nat_lt}
use Rattle.cx_rotate.specs.declared.views.View.{View}

-- the view of a daemon that fetched nothing
abbrev pub empty_view : View
empty_view = record { generations = []; asked = None }

-- the last of these views, or the empty view where there is none
abbrev pub shown : List View → View
shown [] = empty_view
shown (view ∷ []) = view
shown (view ∷ next ∷ views) = shown (next ∷ views)

-- the longer of two lists, the first where they have one length
abbrev pub longer : List View → List View → List View
longer views others = if nat_lt (length views) (length others) then others else views
