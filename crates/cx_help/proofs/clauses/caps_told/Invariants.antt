use Rattle.std.proofs.Common.{◌≡◌, ◌++◌, drop, string_bytes}
use Rattle.cx_help.specs.keyring.Clauses.{caps_told}
use Rattle.cx_help.proofs.clauses.caps_told.Given as goal

abbrev pub invariant-loop-grant : goal.invariant-loop-grant
invariant-loop-grant l = string_bytes l.told ++ caps_told l.all l.name (drop l.grant-index l.grants) ≡ caps_told l.all l.name l.grants
