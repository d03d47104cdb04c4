-- The law of looks: what a daemon looks at is what it fetched last, since it began anew, and nothing where it fetched none.
use Rattle.std.specs.Prelude.{◌≡◌, List, [], ◌∷◌, Some, None, if◌then◌else◌}
use Rattle.cx_base.specs.Names.{Name, same_name}
use Rattle.cx_base.specs.declared.nodes.NodeName.TheVariants as node
use Rattle.cx_steps.specs.cx_journal.specs.Behind.{EachBehind}
use Rattle.cx_steps.specs.cx_journal.specs.declared.entries.Entry.{Entry}
use Rattle.cx_steps.specs.cx_journal.specs.declared.entries.Entry.TheVariants as entry
use Rattle.cx_sealed.specs.cx_rotate.specs.declared.views.View.{View}

-- a view of nothing
abbrev pub nothing_viewed : View
nothing_viewed = record { generations = []; asked = None }

-- the view of this daemon behind an entry: the generations that it fetched, with the reading at which it asked for them; nothing, where it began anew
abbrev pub viewed : Name → View → Entry → View
viewed daemon view (entry.Fetched f) = if same_name f.daemon daemon then record { generations = f.generations; asked = Some f.asked } else view
viewed daemon view (entry.Restarted (node.Entity name)) = if same_name name daemon then nothing_viewed else view
viewed daemon view _ = view

-- behind more of them
abbrev pub viewed_all : Name → View → List Entry → View
viewed_all daemon view [] = view
viewed_all daemon view (e ∷ es) = viewed_all daemon (viewed daemon view e) es

-- behind all of them
abbrev pub view_behind : Name → List Entry → View
view_behind daemon entries = viewed_all daemon nothing_viewed entries

abbrev pub LooksLastBy : List Entry → Entry → Type 0
LooksLastBy earlier (entry.Looked look) = look.view ≡ view_behind look.daemon earlier
LooksLastBy earlier _ = Unit {0}

-- each look of the journal keeps this law
abbrev pub LooksLast : List Entry → Type 0
LooksLast entries = EachBehind LooksLastBy [] entries
