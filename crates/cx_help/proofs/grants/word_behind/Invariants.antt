use Rattle.std.proofs.Common.{◌≡◌, length}
use Rattle.cx_help.specs.keyring.Grants.{word_behind}
use Rattle.cx_help.proofs.grants.word_behind.Given as goal

abbrev pub invariant-loop-rest : goal.invariant-loop-rest
invariant-loop-rest l = word_behind l.key l.rest ≡ word_behind l.key l.fn.clause

abbrev pub decreases-loop-rest : goal.decreases-loop-rest
decreases-loop-rest l = length l.rest
