use Rattle.std.proofs.Common.{◌≡◌, ◌++◌, length, string_bytes}
use Rattle.cx_help.specs.keyring.Clauses.{told_behind}
use Rattle.cx_help.proofs.clauses.told_behind.Given as goal

abbrev pub invariant-loop-rest : goal.invariant-loop-rest
invariant-loop-rest l = string_bytes l.told ++ told_behind l.all l.name l.service l.rest ≡ told_behind l.all l.name l.service l.fn.text

abbrev pub decreases-loop-rest : goal.decreases-loop-rest
decreases-loop-rest l = length l.rest
