use Rattle.std.proofs.Common.{◌≡◌, take}
use Rattle.std.specs.Prelude.{position}
use Rattle.cx_base.specs.Names.{Name}
use Rattle.cx_keyring.specs.Entries.{is_named}
use Rattle.cx_keyring.specs.Indexed.{place_of}
use Rattle.cx_keyring.proofs.keyring.indexed.Given as goal

abbrev pub invariant-loop-i : goal.invariant-loop-i
invariant-loop-i l = (name : Name) → place_of l.names.ids name ≡ position (is_named name) (take l.i l.entries)
