-- The clients of a journal whose secrets count as known.
use Rattle.std.specs.Prelude.{◌≡◌, Bool, false, List}
use Rattle.std.specs.List.{list_any}
use Rattle.cx_base.specs.Names.{Name, same_name}
use Rattle.cx_journal.specs.declared.entries.Entry.{Entry}
use Rattle.cx_journal.specs.declared.entries.Entry.TheVariants as entry

-- whether the entry says that this client leaked
abbrev pub is_leak : Name → Entry → Bool
is_leak client (entry.Leaked name) = same_name name client
is_leak client _ = false

-- no entry of the journal says that this entity leaked
abbrev pub IsUnleaked : List Entry → Name → Type 0
IsUnleaked entries name = list_any (is_leak name) entries ≡ false
