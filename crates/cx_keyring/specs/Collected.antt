-- The entries of lines as they are collected: for each section with a key its name, the first key and the caps of its lines.
use Rattle.std.specs.Prelude.{List, [], ◌∷◌, ◌++◌, Option, Some, None}
use Rattle.std.specs.List.{flat_map}
use Rattle.cx_base.specs.Names.{Name}
use Rattle.cx_enc.specs.declared.keys.Key.{Key}
use Rattle.cx_keyring.specs.declared.entries.Entry.{Entry}
use Rattle.cx_base.specs.declared.grants.Grant.{Grant}
use Rattle.cx_keyring.specs.declared.lines.Line.{Line}
use Rattle.cx_keyring.specs.declared.lines.Line.TheVariants as lines
use Rattle.cx_keyring.specs.Entries.{granted_by}
use Rattle.cx_keyring.specs.Faults.{section_lines}

-- the key that a line gives
abbrev pub key_of_line : Line → Option Key
key_of_line (lines.Key key) = key
key_of_line _ = None

-- the one that is there, the first of two
abbrev pub or_key : Option Key → Option Key → Option Key
or_key (Some key) other = Some key
or_key None other = other

-- the first key that the lines of a section give
abbrev pub key_in : List Line → Option Key
key_in [] = None
key_in (line ∷ body) = or_key (key_of_line line) (key_in body)

-- the entry of this name, where there is a key
abbrev pub keyed : Name → Option Key → List Grant → List Entry
keyed name None caps = []
keyed name (Some key) caps = record { name = name; key = key; caps = caps } ∷ []

-- the entry that a line gives which begins a section: its name, and the key and the caps of the lines up to the next section
abbrev pub entry_by : Line → List Line → List Entry
entry_by (lines.Section (Some name)) after = keyed name (key_in (section_lines after)) (flat_map granted_by (section_lines after))
entry_by _ after = []

-- the entries that the lines give, in their order
abbrev pub entries_of : List Line → List Entry
entries_of [] = []
entries_of (line ∷ after) = entry_by line after ++ entries_of after
