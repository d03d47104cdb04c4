use Rattle.std.proofs.Common.{◌≡◌, ◌++◌, drop}
use Rattle.std.specs.List.{flat_map}
use Rattle.cx_keyring.specs.Rings.{printed_grant}
use Rattle.cx_keyring.proofs.printing.append_grants.Given as goal

abbrev pub invariant-loop-grant : goal.invariant-loop-grant
invariant-loop-grant l = l.into ++ flat_map printed_grant (drop l.grant-index l.grants) ≡ l.initial.into ++ flat_map printed_grant l.grants
