-- What is said of each entry of a journal and of those before it.
use Rattle.std.specs.Prelude.{List, [], ◌∷◌, ◌++◌}
use Rattle.cx_journal.specs.declared.entries.Entry.{Entry}

-- P holds of each of these entries and of all before it, where they stand behind the earlier ones
abbrev pub EachBehind : (List Entry → Entry → Type 0) → List Entry → List Entry → Type 0
EachBehind P earlier [] = Unit {0}
EachBehind P earlier (e ∷ es) = P earlier e × EachBehind P (earlier ++ e ∷ []) es
