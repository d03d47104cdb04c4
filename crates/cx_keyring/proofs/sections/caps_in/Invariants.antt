use Rattle.std.proofs.Common.{◌≡◌, ◌++◌, drop}
use Rattle.std.specs.List.{flat_map}
use Rattle.cx_keyring.specs.Entries.{granted_by}
use Rattle.cx_keyring.proofs.sections.caps_in.Given as goal

abbrev pub invariant-loop-line : goal.invariant-loop-line
invariant-loop-line l = l.grants ++ flat_map granted_by (drop l.line-index l.body) ≡ flat_map granted_by l.body
