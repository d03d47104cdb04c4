use Rattle.std.proofs.Common.{◌≡◌, length}
use Rattle.cx_words.specs.Words.{repeats}
use Rattle.cx_words.proofs.lists.repeats.Given as goal

abbrev pub invariant-loop-rest : goal.invariant-loop-rest
invariant-loop-rest l = repeats l.kinds ≡ repeats l.rest

abbrev pub decreases-loop-rest : goal.decreases-loop-rest
decreases-loop-rest l = length l.rest
